-- A compiled stylesheet is sound.
use Rattle.std.proofs.Common.{◌≡◌, ◌∙◌, ◌<◌, ◌≤◌, ◌+◌, ◌^◌, ℕ, zero, suc, ap, arith, refl, sym, subst, All, List, [], ◌∷◌, Bool, true, false, Option, Some, None, cond, filter, length, inl, inr}
use Rattle.std.proofs.lemmas.Bool.{and_from, and_parts, false≢true, or_cases}
use Rattle.std.proofs.lemmas.List.{length-map}
use Rattle.std.proofs.lemmas.List.Elements.{All-filter, All-head, All-tail, filter_passes}
use Rattle.std.proofs.lemmas.Slice.Zip.{AllZip-long}
use Rattle.std.specs.List.{AllZip, list_all}
use Rattle.std.specs.Option.{option_map_or}
use Rattle.std.specs.Prelude.{◌&&◌, codes, if◌then◌else◌}
use Rattle.xs_compile.proofs.ApartLemmas.{sets-apart}
use Rattle.xs_compile.proofs.BoundLemmas.{locals_at}
use Rattle.xs_compile.proofs.ContentLemmas.{none-in-root, none-in-sheet, param-variable}
use Rattle.xs_structure.proofs.DeclarationLemmas.{IsDeclared, all-declared, both}
use Rattle.xs_compile.proofs.FitLemmas.{Along, At, Opens, body-along, is_param_in, params-along, params-many}
use Rattle.xs_compile.proofs.FreeLemmas.{root_is_free, template_pattern_free}
use Rattle.xs_compile.proofs.InstrLemmas.{body-stands, content-stands, kind-stands}
use Rattle.xs_compile.proofs.OpeningLemmas.{Part, known-tag, parts-without}
use Rattle.xs_compile.proofs.KeyLemmas.{key-sound, site-stands}
use Rattle.xs_compile.proofs.LevelLemmas.{visible-same}
use Rattle.xs_compile.proofs.OpenLemmas.{none-visible, one_if, passing-few}
use Rattle.xs_structure.proofs.TopLemmas.{is_place-true, declaration-seen}
use Rattle.xs_compile.proofs.ReachLemmas.{parent-before}
use Rattle.xs_compile.proofs.ValidLemmas.{clean-known, needed, read-element}
use Rattle.xs_compile.proofs.ValueLemmas.{zip-all}
use Rattle.xs_compile.specs.Bodies.{Source, has_select}
use Rattle.xs_compile.specs.Counted.{globals, is_global, templates}
use Rattle.xs_structure.specs.Order.{is_template_place, all_with, declarations, is_declaration, is_simplified}
use Rattle.xs_compile.specs.Declarations.{IsBinding, IsGlobal, IsInstr, IsKey, IsRule, IsRuleOrModule, IsSet, IsTemplate, IsWholeModule, is_attribute, is_key}
use Rattle.xs_compile.specs.Parsed.{Both, IsPattern}
use Rattle.xs_structure.specs.Parts.{body_at, children_at, children_with, reading_at, tag_at, site_at}
use Rattle.xs_compile.specs.Represents.{IsSheet, Represents}
use Rattle.xs_compile.specs.Modes.{modes_of}
use Rattle.xs_compile.specs.steps.Tags.{is_binding, needs}
use Rattle.xs_compile.specs.steps.Trees.{AreTrees, HasTree}
use Rattle.xs_structure.specs.Places.{IsIn}
use Rattle.xs_elements.specs.declared.reading.Reading.{Reading}
use Rattle.xs_elements.specs.declared.reading.Reading.TheVariants.{Known}
use Rattle.xs_elements.specs.declared.tags.Tag.{Tag}
use Rattle.xs_elements.specs.declared.tags.Tag.TheVariants.{AttributeSet, Key, Other, Param, Template as TemplateTag, Variable}
use Rattle.xs_elements.specs.Reading.{allowed_form, content_by, is_in_extension, reading_by, shows}
use Rattle.xs_elements.specs.Tags.{is_attribute_set, is_document_element, is_other, is_param, is_sheet, is_stylesheet, is_template, is_top_level, is_variable, tag_of}
use Rattle.xs_modules.specs.Numbering.{ModuleData}
use Rattle.xs_modules.specs.Reading.{most_modules}
use Rattle.xs_modules.specs.Sound.{IsSound as AreSound}
use Rattle.xs_sheet.specs.declared.body.Binding.{Binding}
use Rattle.xs_sheet.specs.declared.body.Instr.{Instr}
use Rattle.xs_sheet.specs.declared.declarations.AttrSet.{AttrSet}
use Rattle.xs_sheet.specs.declared.declarations.Global.{Global}
use Rattle.xs_sheet.specs.declared.declarations.KeyDecl.{KeyDecl}
use Rattle.xs_sheet.specs.declared.declarations.Template.{Template}
use Rattle.xs_sheet.specs.declared.scoped.ScopedPattern.{ScopedPattern}
use Rattle.xs_sheet.specs.declared.sheet.Sheet.{Sheet}
use Rattle.xs_sheet.specs.Sets.{is_apart}
use Rattle.xs_sheet.specs.Sound.{IsSound, attribute_stands, counts_of, global_is_sound, key_is_sound, params_stand, set_is_sound, template_is_sound}
use Rattle.xs_sheet.specs.Standing.{Counts, body_stands, content_stands, kind_stands, pattern_is_free_if, site_stands}
use Rattle.xs_static.specs.Faults.{IsFirstFault}
use Rattle.xs_structure.specs.Modules.{Place, is_top_level_element, records_at}
use Rattle.xs_trace.specs.declared.item.Site.{Site}
use Rattle.xs_tree.specs.Kinds.{is_element_kind}
use Rattle.xs_tree.specs.Limits.{most_nodes}
use Rattle.xs_tree.specs.Record.{Record, at, places}
use Rattle.xs_tree.specs.Shape.{IsTree}

-- ---- lists
kept-fewer : {X : Type 0} (test : X → Bool) (xs : List X) → length (filter test xs) ≤ length xs
kept-fewer test [] = omega arith
kept-fewer test (x ∷ xs) = by (test x) (kept-fewer test xs)
  where
    by : (b : Bool) → length (filter test xs) ≤ length xs → length (cond b (x ∷ filter test xs) (filter test xs)) ≤ length (x ∷ xs)
    by true h = omega (arith, h)
    by false h = omega (arith, h)

-- what represents some of a list is no more than the list
fewer : {X Y : Type 0} (R : X → Y → Type 0) (test : X → Bool) (xs : List X) (ys : List Y) (bound : ℕ) → AllZip R (filter test xs) ys → length xs < bound
    → length ys < bound
fewer R test xs ys bound z h =
    let same = AllZip-long R (filter test xs) ys z in
    let few = kept-fewer test xs in
    omega (arith, same, few, h)

both-pass : {X : Type 0} (one two : X → Bool) (xs : List X) → list_all one xs ≡ true → list_all two xs ≡ true → list_all (λ x. one x && two x) xs ≡ true
both-pass one two [] h g = refl
both-pass one two (x ∷ xs) h g =
    let hs = and_parts (one x) (list_all one xs) h in
    let gs = and_parts (two x) (list_all two xs) g in
    and_from (one x && two x) (list_all (λ x. one x && two x) xs) (and_from (one x) (two x) hs.0 gs.0) (both-pass one two xs hs.1 gs.1)

-- ---- the trees of modules
tree-of : (ms : List ModuleData) → AreTrees ms → (m : ℕ) → m < length ms → HasTree (records_at ms m)
tree-of [] h m lt = absurd (omega (arith, lt))
tree-of (d ∷ ds) h zero lt = All-head (λ (d : ModuleData). HasTree d.records) d ds h
tree-of (d ∷ ds) h (suc m) lt = tree-of ds (All-tail (λ (d : ModuleData). HasTree d.records) d ds h) m (omega (arith, lt))

-- ---- tags
template-tag : (tag : Tag) → is_template tag ≡ true → tag ≡ TemplateTag
template-tag TemplateTag e = refl
template-tag tag e = absurd (false≢true e)

key-tag : (tag : Tag) → is_key tag ≡ true → tag ≡ Key
key-tag Key e = refl
key-tag tag e = absurd (false≢true e)

set-tag : (tag : Tag) → is_attribute_set tag ≡ true → tag ≡ AttributeSet
set-tag AttributeSet e = refl
set-tag tag e = absurd (false≢true e)

other-slots : (tag : Tag) → is_other tag ≡ true → one_if (is_variable tag) ≡ 0
other-slots Other e = refl
other-slots tag e = absurd (false≢true e)

variable-binding : (tag : Tag) → is_variable tag ≡ true → is_binding tag ≡ true
variable-binding Variable e = refl
variable-binding Param e = refl
variable-binding tag e = absurd (false≢true e)

module _ (s : Source) (trees : (m : ℕ) → m < length s.modules → IsTree (records_at s.modules m)) (accepted : IsFirstFault s.modules None)
    (counts : Counts) (some_globals : counts.globals ≡ length (globals s.modules)) (some_templates : counts.templates ≡ length (templates s.modules))
    (some_modules : counts.modules ≡ length s.modules)
    (small : (m : ℕ) → m < length s.modules → length (records_at s.modules m) + length (records_at s.modules m) < counts.bound)
    (sound : AreSound s.modules) where
  -- ---- at a declaration no local binding is visible
  none-at : (m n : ℕ) → IsIn s.modules (m, n) → is_declaration (records_at s.modules m) n ≡ true → locals_at s.modules (m, n) ≤ 0
  none-at m n within declared =
      elim (or_cases (is_top_level_element rs n) (is_simplified rs n) declared) [
        | inl top ↦ by_parent (at rs n).parent refl (and_parts (is_element_kind (at rs n).kind) (is_top_level rs n) top).1
        | inr simple ↦ in-root n within.node (and_parts (is_other (tag_of rs n)) (is_document_element rs n) simple).1
      ]
    where
      rs : List Record
      rs = records_at s.modules m

      tree : IsTree rs
      tree = trees m within.«module»

      in-root : (k : ℕ) → k < length rs → is_document_element rs k ≡ true → locals_at s.modules (m, k) ≤ 0
      in-root k inside document =
          let parent = is_place-true 0 (at rs k).parent document in
          let same = visible-same rs tree 0 k inside parent (λ b lt. none-in-root s.modules accepted m within.«module» tree b (omega (arith, lt, inside))) in
          let root = none-visible rs 0 tree.some (ap (λ (r : Record). r.parent) tree.first) in
          omega (arith, same, root)

      by_parent : (o : Option ℕ) → (at rs n).parent ≡ o → option_map_or (is_sheet rs) o false ≡ true → locals_at s.modules (m, n) ≤ 0
      by_parent None e h = absurd (false≢true h)
      by_parent (Some q) e h =
          let sheet = and_parts (is_stylesheet (tag_of rs q)) (is_document_element rs q) h in
          let node = within.node in
          let before = parent-before rs tree n q node e in
          let outer = in-root q (omega (arith, before, node)) sheet.1 in
          let same = visible-same rs tree q n node e (λ b lt. none-in-sheet s.modules accepted m within.«module» tree q h b) in
          omega (arith, outer, same)

  declared-here : (p : Place) → IsDeclared s.modules p → At s.modules 0 p
  declared-here p d =
      let rs = records_at s.modules p.0 in
      let tree = trees p.0 d.within.«module» in
      record {
        within = d.within;
        seen = declaration-seen rs tree p.1 d.within.node d.declares;
        enough = none-at p.0 p.1 d.within d.declares;
        few = omega arith;
      }

  -- the declarations of a kind
  abbrev Declared : (Place → Bool) → Place → Type 0
  Declared test p = IsDeclared s.modules p × (test p ≡ true)

  all-with : (test : Place → Bool) → All (Declared test) (filter test (declarations s.modules))
  all-with test =
      both (IsDeclared s.modules) (λ p. test p ≡ true) (filter test (declarations s.modules))
      (All-filter test (IsDeclared s.modules) (declarations s.modules) (all-declared s.modules sound.some)) (filter_passes test (declarations s.modules))

  site-here : (p : Place) → IsDeclared s.modules p → (site : Site) → site ≡ site_at s.modules p → site_stands counts site ≡ true
  site-here p d site e = site-stands s.modules counts some_modules p d.within.«module» site e

  -- ---- templates
  params-stand : (n : ℕ) (ps : List Place) (bs : List Binding) → Along (At s.modules) (λ n. Unit {0}) (λ q. 1) n ps
      → All (λ q. is_param (tag_at s.modules q) ≡ true) ps → AllZip (IsBinding s) ps bs → params_stand counts n bs ≡ true
  params-stand n [] [] f a z = refl
  params-stand n [] (b ∷ bs) f a z = absurd z
  params-stand n (p ∷ ps) [] f a z = absurd z
  params-stand n (p ∷ ps) (b ∷ bs) f a z =
      let param = All-head (λ q. is_param (tag_at s.modules q) ≡ true) p ps a in
      let binding = variable-binding (tag_at s.modules p) (param-variable (tag_at s.modules p) param) in
      and_from (site_stands counts b.site && content_stands counts n b.content) (params_stand counts (n + 1) bs)
      (and_from (site_stands counts b.site) (content_stands counts n b.content)
      (site-stands s.modules counts some_modules p f.0.within.«module» b.site z.0.site)
      (content-stands s trees accepted counts some_globals some_templates some_modules small n p b.content f.0 binding z.0.content))
      (params-stand (n + 1) ps bs f.1 (All-tail (λ q. is_param (tag_at s.modules q) ≡ true) p ps a) z.1)

  module _ (p : Place) (t : Template) (d : IsDeclared s.modules p) where
    abbrev site : Bool
    site = site_stands counts t.site

    abbrev free : Bool
    free = pattern_is_free_if t.pattern

    abbrev params : Bool
    params = params_stand counts 0 t.params

    together : site ≡ true → free ≡ true → params ≡ true → body_stands counts (length t.params) t.body ≡ true → template_is_sound counts t ≡ true
    together a b c e =
        and_from ((site && free) && params) (body_stands counts (length t.params) t.body)
        (and_from (site && free) params (and_from site free a b) c) e

    rule-sound : t.site ≡ site_at s.modules p → tag_at s.modules p ≡ TemplateTag → IsRule s p t → template_is_sound counts t ≡ true
    rule-sound e tag is =
        let rs = records_at s.modules p.0 in
        let h = declared-here p d in
        let known = known-tag s p TemplateTag tag (λ x y. refl) in
        let shown : (child : Tag) → shows (reading_at s.modules p) child ≡ true = λ child. ap (λ (r : Reading). shows r child) known in
        let clean = clean-known s.modules accepted p h.within h.seen known in
        let element = read-element rs p.1 Known known (λ f. cc (f)) in
        let enough = h.enough in
        let none : locals_at s.modules p ≡ 0 = omega (arith, enough) in
        let content = ap (λ (r : Tag). content_by (reading_by r (is_top_level rs p.1) (is_in_extension rs p.1)) r (has_select s p)) tag in
        let along = params-along s.modules counts.bound trees accepted p h.within h.seen shown content none in
        let many = params-many s.modules counts.bound trees accepted p.0 p.1 (places rs) in
        let same = AllZip-long (IsBinding s) (children_with is_param s.modules p) t.params is.params in
        let few = passing-few (is_param_in rs p.1) (length rs) in
        let opens : Opens s.modules (length t.params) p = record {
          within = h.within;
          seen = h.seen;
          shown = shown;
          enough = omega (arith, none, many, same);
          few = omega (arith, many, same, few);
        } in
        together (site-here p d t.site e)
        (template_pattern_free s.modules accepted p h.within h.seen element clean.read known (ap (λ (r : Tag). allowed_form r (codes "match")) tag) t.pattern
        is.pattern)
        (params-stand 0 (children_with is_param s.modules p) t.params along
        (filter_passes (λ q. is_param (tag_at s.modules q)) (children_at s.modules p)) is.params)
        (body-stands s trees accepted counts some_globals some_templates some_modules small (length t.params) (body_at s.modules p) t.body
        (body-along s.modules counts.bound trees accepted (length t.params) p opens (small p.0 h.within.«module»)) is.body)

    whole-sound : t.site ≡ site_at s.modules p → is_simplified (records_at s.modules p.0) p.1 ≡ true → IsWholeModule s p t
        → template_is_sound counts t ≡ true
    whole-sound e simple is =
        let rs = records_at s.modules p.0 in
        let h = declared-here p d in
        let other = (and_parts (is_other (tag_of rs p.1)) (is_document_element rs p.1) simple).0 in
        let none = other-slots (tag_of rs p.1) other in
        let room = small p.0 h.within.«module» in
        together (site-here p d t.site e) (free-root t.pattern is.pattern) (ap (params_stand counts 0) is.params)
        (ap (λ (bs : List Binding). body_stands counts (length bs) t.body) is.params
        ∙ body-stands s trees accepted counts some_globals some_templates some_modules small 0 (p ∷ []) t.body (h, omega (arith, none, room)) is.body)
      where
        free-root : (o : Option ScopedPattern) → Both (IsPattern s.modules p) (Some (codes "/")) o → pattern_is_free_if o ≡ true
        free-root None is = absurd is
        free-root (Some e) is = root_is_free s.modules p e is

    pub template-sound : is_template_place s.modules p ≡ true → IsTemplate s p t → template_is_sound counts t ≡ true
    template-sound place is = by (is_template (tag_at s.modules p)) refl place is.rest
      where
        by : (b : Bool) → is_template (tag_at s.modules p) ≡ b → (if b then true else is_simplified (records_at s.modules p.0) p.1) ≡ true
            → IsRuleOrModule b s p t → template_is_sound counts t ≡ true
        by true tag h rest = rule-sound is.site (template-tag (tag_at s.modules p) tag) rest
        by false tag h rest = whole-sound is.site h rest

  -- ---- globals
  pub global-sound : (p : Place) (g : Global) → IsDeclared s.modules p → is_global s.modules p ≡ true → IsGlobal s p g → global_is_sound counts g ≡ true
  global-sound p g d h is =
      and_from (site_stands counts g.binding.site) (content_stands counts 0 g.binding.content) (site-here p d g.binding.site is.binding.site)
      (content-stands s trees accepted counts some_globals some_templates some_modules small 0 p g.binding.content (declared-here p d)
      (variable-binding (tag_at s.modules p) (first (is_variable (tag_at s.modules p)) _ h)) is.binding.content)
    where
      first : (b c : Bool) → (if b then c else false) ≡ true → b ≡ true
      first true c e = refl
      first false c e = absurd (false≢true e)

  -- ---- keys
  pub key-here : (p : Place) (k : KeyDecl) → IsDeclared s.modules p → is_key (tag_at s.modules p) ≡ true → IsKey s p k → key_is_sound counts k ≡ true
  key-here p k d h is =
      let at = declared-here p d in
      let tag = key-tag (tag_at s.modules p) h in
      let known = known-tag s p Key tag (λ x y. refl) in
      let pattern = needed s.modules accepted p at.within at.seen (codes "match") known (ap (λ (r : Tag). needs r (codes "match")) tag) in
      let value = needed s.modules accepted p at.within at.seen (codes "use") known (ap (λ (r : Tag). needs r (codes "use")) tag) in
      key-sound s trees accepted counts some_modules p at.within at.seen tag pattern.0 value.0 pattern.1 value.1 k is

  -- ---- attribute sets
  attributes-stand : (p : Place) (is : List Instr) → IsDeclared s.modules p → tag_at s.modules p ≡ AttributeSet
      → AllZip (IsInstr s) (children_with is_attribute s.modules p) is → list_all (attribute_stands counts) is ≡ true
  attributes-stand p is d tag z =
      zip-all (IsInstr s) (Part s trees accepted 0 is_attribute) (attribute_stands counts) (λ q i part own.
      and_from (site_stands counts i.site) (kind_stands counts 0 i.kind)
      (site-stands s.modules counts some_modules q part.here.within.«module» i.site own.site)
      (kind-stands s trees accepted counts some_globals some_templates some_modules small 0 q i.kind part.here own.kind))
      (children_with is_attribute s.modules p) is
      (parts-without s trees accepted 0 p AttributeSet is_attribute (declared-here p d) tag (λ x y. refl)
      (λ x. refl))
      z

  abbrev attributes_sound : AttrSet → Bool
  attributes_sound a = site_stands counts a.site && list_all (attribute_stands counts) a.attributes

  set-sound : (p : Place) (a : AttrSet) → Declared (λ q. is_attribute_set (tag_at s.modules q)) p → IsSet s p a → attributes_sound a ≡ true
  set-sound p a d is =
      and_from (site_stands counts a.site) (list_all (attribute_stands counts) a.attributes) (site-here p d.0 a.site is.site)
      (attributes-stand p a.attributes d.0 (set-tag (tag_at s.modules p) d.1) is.attributes)

  pub sets-sound : (sets : List AttrSet) → AllZip (IsSet s) (all_with is_attribute_set s.modules) sets → list_all (set_is_sound counts sets) sets ≡ true
  sets-sound sets z =
      both-pass attributes_sound (is_apart sets) sets
      (zip-all (IsSet s) (Declared (λ q. is_attribute_set (tag_at s.modules q))) attributes_sound set-sound (all_with is_attribute_set s.modules) sets
      (all-with (λ q. is_attribute_set (tag_at s.modules q))) z)
      (sets-apart s trees accepted sound sets z)

  pub templates-sound : (ts : List Template) → AllZip (IsTemplate s) (templates s.modules) ts → list_all (template_is_sound counts) ts ≡ true
  templates-sound ts z =
      zip-all (IsTemplate s) (Declared (is_template_place s.modules)) (template_is_sound counts) (λ p t d is. template-sound p t d.0 d.1 is)
      (templates s.modules) ts (all-with (is_template_place s.modules)) z

  pub globals-sound : (gs : List Global) → AllZip (IsGlobal s) (globals s.modules) gs → list_all (global_is_sound counts) gs ≡ true
  globals-sound gs z =
      zip-all (IsGlobal s) (Declared (is_global s.modules)) (global_is_sound counts) (λ p g d is. global-sound p g d.0 d.1 is) (globals s.modules) gs
      (all-with (is_global s.modules)) z

  pub keys-sound : (ks : List KeyDecl) → AllZip (IsKey s) (all_with is_key s.modules) ks → list_all (key_is_sound counts) ks ≡ true
  keys-sound ks z =
      zip-all (IsKey s) (Declared (λ q. is_key (tag_at s.modules q))) (key_is_sound counts) (λ p k d is. key-here p k d.0 d.1 is) (all_with is_key s.modules) ks
      (all-with (λ q. is_key (tag_at s.modules q))) z

-- ---- the whole
few-modules : (n : ℕ) → n ≤ most_modules → n < 2 ^ 32
few-modules n le = let room : most_modules < 2 ^ 32 = omega arith in omega (arith, le, room)

few-nodes : (n : ℕ) → n ≤ most_nodes → n + n < 2 ^ 32
few-nodes n le = let room : most_nodes + most_nodes < 2 ^ 32 = omega arith in omega (arith, le, room)

pub sheet_sound : (ms : List ModuleData) (sheet : Sheet) → AreSound ms → AreTrees ms → IsFirstFault ms None → Represents ms sheet
    → length (declarations ms) < 2 ^ 32 → IsSound sheet
sheet_sound ms sheet sound are accepted stands few =
    let s : Source = record { modules = ms; modes = modes_of ms } in
    let is : IsSheet s sheet = stands in
    let trees : (m : ℕ) → m < length ms → IsTree (records_at ms m) = λ m lt. (tree-of ms are m lt).tree in
    let small : (m : ℕ) → m < length ms → length (records_at ms m) + length (records_at ms m) < 2 ^ 32 =
    λ m lt. few-nodes (length (records_at ms m)) (tree-of ms are m lt).few in
    let counts = counts_of sheet in
    let some_globals = AllZip-long (IsGlobal s) (globals ms) sheet.globals is.globals in
    let some_templates = AllZip-long (IsTemplate s) (templates ms) sheet.templates is.templates in
    let some_modules : length sheet.modules ≡ length ms = ap length is.modules ∙ length-map ms (λ (d : ModuleData). d.name) in
    record {
      templates = templates-sound s trees accepted counts some_globals some_templates some_modules small sound sheet.templates is.templates;
      globals = globals-sound s trees accepted counts some_globals some_templates some_modules small sound sheet.globals is.globals;
      keys = keys-sound s trees accepted counts some_globals some_templates some_modules small sound sheet.keys is.keys;
      sets = sets-sound s trees accepted counts some_globals some_templates some_modules small sound sheet.sets is.sets;
      few_templates = fewer (IsTemplate s) (is_template_place ms) (declarations ms) sheet.templates (2 ^ 32) is.templates few;
      few_globals = fewer (IsGlobal s) (is_global ms) (declarations ms) sheet.globals (2 ^ 32) is.globals few;
      few_keys = fewer (IsKey s) (λ q. is_key (tag_at ms q)) (declarations ms) sheet.keys (2 ^ 32) is.keys few;
      few_modules = few-modules (length sheet.modules) (subst (λ n. n ≤ most_modules) (sym some_modules) sound.few);
    }
