-- No attribute set uses itself, where there is no static fault.
use Rattle.std.proofs.Common.{◌≡◌, ◌∙◌, ◌<◌, ◌==◌, ℕ, zero, suc, ap, refl, sym, subst, All, List, [], ◌∷◌, ◌++◌, cond, filter, length, Bool, true, false, Option, Some, None, inl, inr, eq-eqb}
use Rattle.std.proofs.lemmas.Bool.{and_from, false≢true, or_cases, or_left, or_parts, true≢false}
use Rattle.std.proofs.lemmas.List.Elements.{All-head, All-tail}
use Rattle.std.proofs.lemmas.Option.{none-some}
use Rattle.std.proofs.lemmas.Slice.Eq.{bytes_eq-Decides}
use Rattle.std.specs.List.{AllZip, flat_map, list_all, list_any}
use Rattle.std.specs.Option.{option_and_then, option_map_or}
use Rattle.std.specs.Prelude.{◌||◌, codes, not, option_map, if◌then◌else◌}
use Rattle.std.specs.Str.{bytes_eq}
use Rattle.xs_static.specs.Circles.{IsAmong, SomeLeads, itself, by_use}
use Rattle.xs_structure.proofs.DeclarationLemmas.{IsDeclared, all-declared}
use Rattle.xs_static.proofs.SameNameLemmas.{same-true}
use Rattle.xs_compile.proofs.AmongLemmas.{all-among, among-all, among-filter, among-flat, among-flattened, among-kept, among-left, among-mapped, among-right}
use Rattle.xs_structure.proofs.TopLemmas.{declaration-seen, seen-child}
use Rattle.xs_compile.proofs.ShownLemmas.{IsChildOf, all-children}
use Rattle.xs_compile.proofs.CleanLemmas.{attribute-clean, no-fault, read-known, shows-none, value-clean}
use Rattle.xs_compile.proofs.UsedSetLemmas.{Covers, Held, covers-append, covers-wider, element_covers, kind-covers, name_of_label, tag-element}
use Rattle.xs_compile.specs.Bodies.{Source}
use Rattle.xs_compile.specs.Declarations.{IsInstr, IsSet, is_attribute}
use Rattle.xs_structure.specs.Order.{all_with, declarations, declares}
use Rattle.xs_compile.specs.Labels.{label_at, label_in, label_of}
use Rattle.xs_structure.specs.Parts.{children_at, children_with, pairs_at, reading_at, tag_at, value_at}
use Rattle.xs_elements.specs.Contents.{is_attribute as is_attribute_tag}
use Rattle.xs_elements.specs.declared.forms.Form.{Form}
use Rattle.xs_elements.specs.declared.forms.Form.TheVariants.{Name as NameForm}
use Rattle.xs_elements.specs.declared.reading.Reading.{Reading}
use Rattle.xs_elements.specs.declared.reading.Reading.TheVariants.{Known}
use Rattle.xs_elements.specs.declared.tags.Tag.{Tag}
use Rattle.xs_elements.specs.declared.tags.Tag.TheVariants.{Attribute, AttributeSet}
use Rattle.xs_elements.specs.Nodes.{Name, expanded, if_bound, is_named, own_name, scope_at}
use Rattle.xs_elements.specs.Reading.{form_by, is_in_extension, is_seen, reading_by, shows}
use Rattle.xs_elements.specs.Tags.{is_attribute_set, is_top_level, tag_of}
use Rattle.xs_modules.specs.Sound.{IsSound}
use Rattle.xs_sheet.specs.declared.body.Instr.{Instr}
use Rattle.xs_sheet.specs.declared.declarations.AttrSet.{AttrSet}
use Rattle.xs_sheet.specs.Sets.{is_apart, is_same_label, kind_sets, reached, sets_of as sheet_sets, used_by as sheet_used}
use Rattle.xs_static.specs.Faults.{IsFirstFault, circular_set, is_misspelled, some_value, unbound_prefix}
use Rattle.xs_text.specs.Names.{QName, qname_of}
use Rattle.xs_xpath.specs.Names.{is_bound, uri_of}
use Rattle.xs_elements.specs.Values.{is_unbound, is_unbound_name}
use Rattle.std.proofs.lemmas.List.Folds.{list_any-append}
use Rattle.xs_structure.specs.Modules.{Place, records_at}
use Rattle.xs_static.specs.Sets.{attribute_sets, is_part, named_sets, sets_of, sets_within, used_by}
use Rattle.xs_trace.specs.Label.{Label}
use Rattle.xs_tree.specs.Kinds.{is_element_kind}
use Rattle.xs_tree.specs.Record.{at, children, is_inside}
use Rattle.xs_tree.specs.Shape.{IsTree}

-- ---- what a declaration of a set uses
attribute-tag : (tag : Tag) → is_attribute tag ≡ true → tag ≡ Attribute
attribute-tag Attribute e = refl
attribute-tag tag e = absurd (false≢true e)

set-tag : (tag : Tag) → is_attribute_set tag ≡ true → tag ≡ AttributeSet
set-tag AttributeSet e = refl
set-tag tag e = absurd (false≢true e)

module _ (s : Source) (trees : (m : ℕ) → m < length s.modules → IsTree (records_at s.modules m)) (accepted : IsFirstFault s.modules None) where
  -- a declaration of a set
  pub record IsSetAt (p : Place) : Type 0 where
    pub known : p.0 < length s.modules
    pub inside : p.1 < length (records_at s.modules p.0)
    pub seen : is_seen (records_at s.modules p.0) p.1 ≡ true
    pub tag : tag_at s.modules p ≡ AttributeSet
    pub declared : IsAmong p (declarations s.modules)

  set-read : (p : Place) → IsSetAt p → reading_at s.modules p ≡ Known
  set-read p h =
      ap (λ (r : Tag). reading_by r (is_top_level (records_at s.modules p.0) p.1) (is_in_extension (records_at s.modules p.0) p.1)) h.tag

  -- one of its attributes
  record IsAttributeAt (p q : Place) : Type 0 where
    node : ℕ
    place : q ≡ (p.0, node)
    among : IsAmong node (children (records_at s.modules p.0) p.1)
    tag : tag_at s.modules q ≡ Attribute

  attributes-at : (p : Place) → All (IsAttributeAt p) (children_with is_attribute s.modules p)
  attributes-at p =
      all-among (IsAttributeAt p) (children_with is_attribute s.modules p) (λ q h.
      let kept = among-kept (λ x. is_attribute (tag_at s.modules x)) q (children_at s.modules p) h in
      let of = among-mapped (λ k. (p.0, k)) q (children (records_at s.modules p.0) p.1) kept.0 in
      record { node = of.item; place = sym of.is; among = of.among; tag = attribute-tag (tag_at s.modules q) kept.1 })

  attribute-covers : (p q : Place) (i : Instr) → IsSetAt p → IsAttributeAt p q → IsInstr s q i
      → Covers (flat_map (attribute_sets (records_at s.modules p.0)) (children (records_at s.modules p.0) p.1)) (kind_sets i.kind)
  attribute-covers p q i h a is =
      let rs = records_at s.modules p.0 in
      let k = a.node in
      let child = among-all (IsChildOf rs p.1) (children rs p.1) k (all-children rs p.1) a.among in
      let seen : is_seen rs k ≡ true =
      seen-child rs (trees p.0 h.known) p.1 k child.inside child.parent (ap (λ (r : Reading). shows r (tag_of rs k)) (set-read p h)) h.seen in
      let tag : tag_of rs k ≡ Attribute = ap (λ (x : Place). tag_at s.modules x) (sym a.place) ∙ a.tag in
      let own : is_part rs k k ≡ true = and_from (k == k || is_inside rs k k) (is_seen rs k) (or_left (k == k) (is_inside rs k k) (eq-eqb k k refl)) seen in
      let held : Held s trees accepted p.0 k h.known q = record { node = k; place = a.place; inside = child.inside; part = own } in
      covers-wider (sets_within rs k) (flat_map (attribute_sets rs) (children rs p.1))
      (λ n g. among-flat (attribute_sets rs) k n (children rs p.1) a.among
      (subst (λ (r : Tag). IsAmong n (if is_attribute_tag r then sets_within rs k else [])) (sym tag) g))
      (kind_sets i.kind) (kind-covers s trees accepted p.0 k h.known q i.kind held is.kind)

  attributes-cover : (p : Place) → IsSetAt p → (qs : List Place) (is : List Instr) → All (IsAttributeAt p) qs → AllZip (IsInstr s) qs is
      → Covers (flat_map (attribute_sets (records_at s.modules p.0)) (children (records_at s.modules p.0) p.1)) (flat_map (λ i. kind_sets i.kind) is)
  attributes-cover p h [] [] a z = tt
  attributes-cover p h [] (i ∷ is) a z = absurd z
  attributes-cover p h (q ∷ qs) [] a z = absurd z
  attributes-cover p h (q ∷ qs) (i ∷ is) a z =
      covers-append (flat_map (attribute_sets (records_at s.modules p.0)) (children (records_at s.modules p.0) p.1)) (kind_sets i.kind)
      (flat_map (λ i. kind_sets i.kind) is) (attribute-covers p q i h (All-head (IsAttributeAt p) q qs a) z.0)
      (attributes-cover p h qs is (All-tail (IsAttributeAt p) q qs a) z.1)

  pub set_covers : (p : Place) (d : AttrSet) → IsSetAt p → IsSet s p d → Covers (sets_of s.modules p) (sheet_sets d)
  set_covers p d h is =
      let rs = records_at s.modules p.0 in
      let first = named_sets rs p.1 in
      let second = flat_map (attribute_sets rs) (children rs p.1) in
      covers-append (first ++ second) d.sets (flat_map (λ i. kind_sets i.kind) d.attributes)
      (covers-wider first (first ++ second) (λ n g. among-left n first second g) d.sets
      (subst (Covers first) (sym is.sets)
      (element_covers s trees accepted p.0 p.1 h.known p.1 h.inside h.seen AttributeSet Known [] h.tag (set-read p h) refl refl refl (inl refl))))
      (covers-wider second (first ++ second) (λ n g. among-right n first second g) (flat_map (λ i. kind_sets i.kind) d.attributes)
      (attributes-cover p h (children_with is_attribute s.modules p) d.attributes (attributes-at p) is.attributes))

  -- ---- a chain of uses
  -- the name that a declaration says
  set-element : (p : Place) → IsSetAt p → is_element_kind (at (records_at s.modules p.0) p.1).kind ≡ true
  set-element p h = tag-element s trees accepted p.0 p.1 h.known p.1 AttributeSet h.tag refl

  set-bound : (p : Place) → IsSetAt p → (value : List ℕ) → value_at s.modules p (codes "name") ≡ Some value → is_unbound_name (pairs_at s.modules p) value ≡
      false
  set-bound p h value e =
      let rs = records_at s.modules p.0 in
      let property : Form → List ℕ → Bool = λ form value. is_unbound form (scope_at rs p.1) value in
      let none = shows-none s.modules accepted unbound_prefix p (record { «module» = h.known; node = h.inside }) (set-element p h) (λ g. g) h.seen in
      value-clean rs p.1 property [] (codes "name") value NameForm
      (attribute-clean rs p.1 property (read-known rs p.1 (set-read p h)) (or_parts (some_value rs p.1 property) (is_misspelled 38 rs p.1) none).0) e
      (ap (λ (r : Reading). form_by r (tag_of rs p.1) [] (codes "name")) (set-read p h) ∙ ap (λ (r : Tag). form_by Known r [] (codes "name")) h.tag)

  set-named : (p : Place) → IsSetAt p → (l : Label) → label_at s.modules p ≡ Some l → own_name (records_at s.modules p.0) p.1 ≡ Some (name_of_label l)
  set-named p h l e = by_value (value_at s.modules p (codes "name")) refl (set-bound p h) e
    where
      by_bound : (q : QName) (b : Bool) → is_bound (pairs_at s.modules p) q.prefix ≡ b → not b ≡ false → Some (label_of (pairs_at s.modules p) q) ≡ Some l
          → if_bound (pairs_at s.modules p) q ≡ Some (name_of_label l)
      by_bound q true e g same =
          ap (λ (b : Bool). if b then Some (uri_of (pairs_at s.modules p) q.prefix, q.local) else None) e ∙ ap (option_map name_of_label) same
      by_bound q false e g same = absurd (true≢false g)

      by_q : (o : Option QName) → option_map_or (λ q. not (is_bound (pairs_at s.modules p) q.prefix)) o false ≡ false
          → option_map (label_of (pairs_at s.modules p)) o ≡ Some l → option_and_then (if_bound (pairs_at s.modules p)) o ≡ Some (name_of_label l)
      by_q None g same = absurd (none-some l same)
      by_q (Some q) g same = by_bound q (is_bound (pairs_at s.modules p) q.prefix) refl g same

      by_value : (o : Option (List ℕ)) → value_at s.modules p (codes "name") ≡ o
          → ((value : List ℕ) → value_at s.modules p (codes "name") ≡ Some value → is_unbound_name (pairs_at s.modules p) value ≡ false)
          → option_and_then (label_in (pairs_at s.modules p)) (value_at s.modules p (codes "name")) ≡ Some l
          → own_name (records_at s.modules p.0) p.1 ≡ Some (name_of_label l)
      by_value None e bound g = absurd (none-some l (sym (ap (option_and_then (label_in (pairs_at s.modules p))) e) ∙ g))
      by_value (Some value) e bound g =
          ap (option_and_then (expanded (pairs_at s.modules p))) e
          ∙ by_q (qname_of value) (bound value e) (sym (ap (option_and_then (label_in (pairs_at s.modules p))) e) ∙ g)

  set-declares : (p : Place) → IsSetAt p → (l own : Label) → label_at s.modules p ≡ Some own → is_same_label l own ≡ true
      → declares is_attribute_set s.modules (name_of_label l) p ≡ true
  set-declares p h l own e same =
      let rs = records_at s.modules p.0 in
      and_from (is_attribute_set (tag_of rs p.1)) (is_named (name_of_label l) (own_name rs p.1)) (ap is_attribute_set h.tag)
      (ap (is_named (name_of_label l)) (set-named p h own e) ∙ same)

  -- what the sets of a name use
  used-covers : (l : Label) (qs : List Place) (ds : List AttrSet) → AllZip (IsSet s) qs ds → All IsSetAt qs
      → Covers (used_by s.modules (name_of_label l)) (sheet_used ds l)
  used-covers l [] [] z a = tt
  used-covers l [] (d ∷ ds) z a = absurd z
  used-covers l (q ∷ qs) [] z a = absurd z
  used-covers l (q ∷ qs) (d ∷ ds) z a =
      by_name (is_same_label l d.name) refl (used-covers l qs ds z.1 (All-tail IsSetAt q qs a))
    where
      by_name : (b : Bool) → is_same_label l d.name ≡ b → Covers (used_by s.modules (name_of_label l)) (sheet_used ds l)
          → Covers (used_by s.modules (name_of_label l))
          (flat_map sheet_sets (cond b (d ∷ filter (λ d. is_same_label l d.name) ds) (filter (λ d. is_same_label l d.name) ds)))
      by_name true e rest =
          let h = All-head IsSetAt q qs a in
          let ms = s.modules in
          let name = name_of_label l in
          covers-append (used_by ms name) (sheet_sets d) (sheet_used ds l)
          (covers-wider (sets_of ms q) (used_by ms name)
          (λ n g. among-flat (sets_of ms) q n (filter (declares is_attribute_set ms name) (declarations ms))
          (among-filter (declares is_attribute_set ms name) q (declarations ms) h.declared (set-declares q h l d.name z.0.name e)) g)
          (sheet_sets d) (set_covers q d h z.0)) rest
      by_name false e rest = rest

  -- what is reached
  module _ (ds : List AttrSet) (all : (l : Label) → Covers (used_by s.modules (name_of_label l)) (sheet_used ds l)) (goal : Label) where
    abbrev Leads : List Name → Type 0
    Leads names = SomeLeads (used_by s.modules) names (name_of_label goal)

    same-label : (a b : Label) → is_same_label a b ≡ true → name_of_label b ≡ name_of_label a
    same-label a b e = sym (same-true (name_of_label a) (name_of_label b) e)

    found-leads : (names : List Name) (ls : List Label) → Covers names ls → list_any (is_same_label goal) ls ≡ true → Leads names
    found-leads names [] c h = absurd (false≢true h)
    found-leads names (l ∷ ls) c h = elim (or_cases (is_same_label goal l) (list_any (is_same_label goal) ls) h) [
      | inl here ↦ (name_of_label l, c.0, itself (same-label goal l here))
      | inr there ↦ found-leads names ls c.1 there
    ]

    more-covers : (names : List Name) (ls : List Label) → Covers names ls → Covers (flat_map (used_by s.modules) names) (flat_map (sheet_used ds) ls)
    more-covers names [] c = tt
    more-covers names (l ∷ ls) c =
        covers-append (flat_map (used_by s.modules) names) (sheet_used ds l) (flat_map (sheet_used ds) ls)
        (covers-wider (used_by s.modules (name_of_label l)) (flat_map (used_by s.modules) names)
        (λ n g. among-flat (used_by s.modules) (name_of_label l) n names c.0 g) (sheet_used ds l) (all l))
        (more-covers names ls c.1)

    reached-leads : (times : ℕ) (names : List Name) (ls : List Label) → Covers names ls → list_any (is_same_label goal) (reached times ds ls) ≡ true → Leads
        names
    unfolding reached
    reached-leads zero names ls c h = found-leads names ls c h
    reached-leads (suc times) names ls c h =
        let next = flat_map (sheet_used ds) ls in
        elim (or_cases (list_any (is_same_label goal) ls) (list_any (is_same_label goal) (reached times ds next))
        (sym (list_any-append (is_same_label goal) ls (reached times ds next)) ∙ h)) [
          | inl here ↦ found-leads names ls c here
          | inr there ↦ (let more = reached-leads times (flat_map (used_by s.modules) names) next (more-covers names ls c) there in
              let of = among-flattened (used_by s.modules) more.0 names more.1 in
              (of.item, of.among, by_use more.0 of.inside more.2))
        ]

  -- no set leads back to its name
  pub is-apart : (qs : List Place) (ds : List AttrSet) → AllZip (IsSet s) qs ds → All IsSetAt qs → (q : Place) (d : AttrSet) → IsSetAt q → IsSet s q d
      → is_apart ds d ≡ true
  is-apart qs ds z a q d h is = by_reached (list_any (is_same_label d.name) (reached (length ds) ds (sheet_sets d))) refl
    where
      by_reached : (b : Bool) → list_any (is_same_label d.name) (reached (length ds) ds (sheet_sets d)) ≡ b → not b ≡ true
      by_reached false e = refl
      by_reached true e =
          let same : is_same_label d.name d.name ≡ true =
          and_from (bytes_eq d.name.uri d.name.uri) (bytes_eq d.name.local d.name.local) ((bytes_eq-Decides d.name.uri d.name.uri).1 refl)
          ((bytes_eq-Decides d.name.local d.name.local).1 refl) in
          absurd (no-fault s.modules accepted circular_set q (record { «module» = h.known; node = h.inside }) (set-element q h) (
            h.declared,
            (
              name_of_label d.name,
              set-declares q h d.name d.name is.name same,
              reached-leads ds (λ l. used-covers l qs ds z a) d.name (length ds) (sets_of s.modules q) (sheet_sets d) (set_covers q d h is) e,
            ),
          ))

  each-apart : (all : List AttrSet) (ps : List Place) → AllZip (IsSet s) ps all → All IsSetAt ps → (qs : List Place) (ds : List AttrSet)
      → AllZip (IsSet s) qs ds → All IsSetAt qs → list_all (is_apart all) ds ≡ true
  each-apart all ps z a [] [] y b = refl
  each-apart all ps z a [] (d ∷ ds) y b = absurd y
  each-apart all ps z a (q ∷ qs) [] y b = absurd y
  each-apart all ps z a (q ∷ qs) (d ∷ ds) y b =
      and_from (is_apart all d) (list_all (is_apart all) ds) (is-apart ps all z a q d (All-head IsSetAt q qs b) y.0)
      (each-apart all ps z a qs ds y.1 (All-tail IsSetAt q qs b))

  -- the declarations of sets are sets of the stylesheet
  set-at : IsSound s.modules → (p : Place) → IsAmong p (declarations s.modules) → is_attribute_set (tag_at s.modules p) ≡ true → IsSetAt p
  set-at sound p among h =
      let ms = s.modules in
      let tag = set-tag (tag_at ms p) h in
      let is = among-all (IsDeclared ms) (declarations ms) p (all-declared ms sound.some) among in
      record {
        known = is.within.«module»;
        inside = is.within.node;
        seen = declaration-seen (records_at ms p.0) (trees p.0 is.within.«module») p.1 is.within.node is.declares;
        tag = tag;
        declared = among;
      }

  pub sets-apart : IsSound s.modules → (ds : List AttrSet) → AllZip (IsSet s) (all_with is_attribute_set s.modules) ds → list_all (is_apart ds) ds ≡ true
  sets-apart sound ds z =
      let sets = all_with is_attribute_set s.modules in
      let at : All IsSetAt sets = all-among IsSetAt sets (λ p h.
      let kept = among-kept (λ q. is_attribute_set (tag_at s.modules q)) p (declarations s.modules) h in set-at sound p kept.0 kept.1) in
      each-apart ds sets z at sets ds z at
