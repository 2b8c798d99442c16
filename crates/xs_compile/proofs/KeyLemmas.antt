-- Keys and templates are sound, as far as their patterns go.
use Rattle.std.proofs.Common.{◌≡◌, ◌∙◌, ◌<◌, ℕ, ap, refl, subst, List, length, true, Option, Some, None, []}
use Rattle.std.proofs.lemmas.Bool.{and_from, lt-ltb}
use Rattle.std.specs.List.{list_all}
use Rattle.std.specs.Option.{unwrap_or}
use Rattle.std.specs.Prelude.{◌&&◌, codes, not, nat_lt}
use Rattle.xs_compile.proofs.CleanLemmas.{read-known}
use Rattle.xs_compile.proofs.FreeLemmas.{key_pattern_free, key_pattern_no_key, key_use_free}
use Rattle.xs_compile.proofs.UsedSetLemmas.{tag-element}
use Rattle.xs_compile.specs.Bodies.{Source}
use Rattle.xs_compile.specs.Declarations.{IsKey}
use Rattle.xs_compile.specs.Parsed.{IsExpr, IsPattern}
use Rattle.xs_structure.specs.Parts.{reading_at, tag_at, site_at, value_at}
use Rattle.xs_structure.specs.Places.{IsIn}
use Rattle.xs_elements.specs.declared.reading.Reading.TheVariants.{Known}
use Rattle.xs_elements.specs.declared.tags.Tag.{Tag}
use Rattle.xs_elements.specs.declared.tags.Tag.TheVariants.{Key}
use Rattle.xs_elements.specs.Reading.{allowed_form, is_in_extension, is_seen, reading_by}
use Rattle.xs_elements.specs.Tags.{is_top_level}
use Rattle.xs_modules.specs.Numbering.{ModuleData}
use Rattle.xs_sheet.specs.declared.declarations.KeyDecl.{KeyDecl}
use Rattle.xs_sheet.specs.Sound.{holds_no_key, key_is_sound}
use Rattle.xs_sheet.specs.Standing.{Counts, pattern_is_free, site_stands}
use Rattle.xs_static.specs.Faults.{IsFirstFault}
use Rattle.xs_structure.specs.Modules.{Place, records_at}
use Rattle.xs_trace.specs.declared.item.Site.{Site}
use Rattle.xs_tree.specs.Shape.{IsTree}
use Rattle.xs_xpath.specs.Uses.{uses_variables}

-- what stands in the stylesheet is in a module of the sheet
pub site-stands : (ms : List ModuleData) (counts : Counts) → counts.modules ≡ length ms → (p : Place) → p.0 < length ms → (site : Site)
    → site ≡ site_at ms p → site_stands counts site ≡ true
site-stands ms counts many p inside site e =
    ap (site_stands counts) e ∙ ap (λ (n : ℕ). nat_lt p.0 n) many ∙ lt-ltb p.0 (length ms) inside

module _ (s : Source) (trees : (m : ℕ) → m < length s.modules → IsTree (records_at s.modules m)) (accepted : IsFirstFault s.modules None)
    (counts : Counts) (many : counts.modules ≡ length s.modules) where
  pub key-sound : (p : Place) → IsIn s.modules p → is_seen (records_at s.modules p.0) p.1 ≡ true → tag_at s.modules p ≡ Key → (pattern value : List ℕ)
      → value_at s.modules p (codes "match") ≡ Some pattern → value_at s.modules p (codes "use") ≡ Some value → (k : KeyDecl) → IsKey s p k
      → key_is_sound counts k ≡ true
  key-sound p within seen tag pattern value said-pattern said-use k is =
      let ms = s.modules in
      let rs = records_at ms p.0 in
      let known : reading_at ms p ≡ Known = ap (λ (r : Tag). reading_by r (is_top_level rs p.1) (is_in_extension rs p.1)) tag in
      let element = tag-element s trees accepted p.0 p.1 within.«module» p.1 Key tag refl in
      let read = read-known rs p.1 known in
      let matches = subst (λ v. IsPattern ms p v k.pattern) (ap (λ (o : Option (List ℕ)). unwrap_or o []) said-pattern) is.pattern in
      let uses = subst (λ v. IsExpr ms p v k.value) (ap (λ (o : Option (List ℕ)). unwrap_or o []) said-use) is.value in
      let formed = ap (λ (r : Tag). allowed_form r (codes "match")) tag in
      let nothing = key_use_free ms accepted p within seen element read known value said-use (ap (λ (r : Tag). allowed_form r (codes "use")) tag) k.value
      uses in
      let free = pattern_is_free k.pattern in
      let no-key = list_all holds_no_key k.pattern.pattern in
      let no-variable = not (uses_variables k.value.expr) in
      let no-key-used = holds_no_key k.value.expr in
      let site = site_stands counts k.site in
      and_from (((site && free) && no-key) && no-variable) no-key-used
      (and_from ((site && free) && no-key) no-variable
      (and_from (site && free) no-key
      (and_from site free (site-stands ms counts many p within.«module» k.site is.site)
      (key_pattern_free ms accepted p within seen element read known pattern said-pattern formed k.pattern matches))
      (key_pattern_no_key ms accepted p within seen element read known pattern said-pattern formed k.pattern matches)) nothing.variables) nothing.key
