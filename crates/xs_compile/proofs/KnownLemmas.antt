-- Names that are declared have a number.
use Rattle.std.proofs.Common.{◌≡◌, ◌∙◌, ℕ, ◌<◌, ap, refl, sym, subst, List, [], ◌∷◌, cond, filter, length, Bool, true, false, Option, Some, None, inl, inr}
use Rattle.std.proofs.lemmas.Bool.{and_parts, false≢true, or_cases, or_left, or_right}
use Rattle.std.proofs.lemmas.Option.{none-some}
use Rattle.std.specs.List.{list_any, position}
use Rattle.std.specs.Option.{option_and_then, option_map_or}
use Rattle.std.specs.Prelude.{◌&&◌, ◌||◌, nat_lt, if◌then◌else◌}
use Rattle.xs_static.proofs.SameNameLemmas.{same-true}
use Rattle.xs_compile.proofs.ModeLemmas.{position_found}
use Rattle.xs_compile.proofs.TemplateNumberLemmas.{counted-passes}
use Rattle.xs_compile.specs.Counted.{counted, global_number, globals, greater, is_global, named, template_number, templates}
use Rattle.xs_structure.proofs.DeclarationLemmas.{place-same, same-place}
use Rattle.xs_structure.specs.Order.{is_template_place, declarations, is_simplified, declares}
use Rattle.xs_structure.specs.Parts.{name_at, tag_at}
use Rattle.xs_elements.specs.declared.tags.Tag.{Tag}
use Rattle.xs_elements.specs.Nodes.{Name, is_named}
use Rattle.xs_elements.specs.Tags.{is_template, is_variable}
use Rattle.xs_modules.specs.Numbering.{ModuleData}
use Rattle.xs_structure.specs.Modules.{Place, is_same_place, records_at}
use Rattle.xs_static.specs.Names.{is_declared, is_global as has_global, is_template_name}

-- ---- one of a list passes a test
module _ {X : Type 0} (test : X → Bool) where
  -- of those that pass another test
  kept-next : (x : X) (xs kept : List X) (b : Bool) → (list_any test kept ≡ true → list_any test xs ≡ true)
      → list_any test (cond b (x ∷ kept) kept) ≡ true → (test x || list_any test xs) ≡ true
  kept-next x xs kept true again h = elim (or_cases (test x) (list_any test kept) h) [
    | inl own ↦ or_left (test x) (list_any test xs) own
    | inr more ↦ or_right (test x) (list_any test xs) (again more)
  ]
  kept-next x xs kept false again h = or_right (test x) (list_any test xs) (again h)

  any-kept : (other : X → Bool) (xs : List X) → list_any test (filter other xs) ≡ true → list_any test xs ≡ true
  any-kept other [] h = h
  any-kept other (x ∷ xs) h = kept-next x xs (filter other xs) (other x) (any-kept other xs) h

-- ---- the one that counts
module _ (ms : List ModuleData) where
  either-in : (c p : Place) (o : Option Place) (ps : List Place) → ((q : Place) → o ≡ Some q → list_any (is_same_place q) ps ≡ true)
      → greater ms p o ≡ c → (is_same_place c p || list_any (is_same_place c) ps) ≡ true
  either-in c p None ps again h =
      or_left (is_same_place c p) _ (subst (λ x. is_same_place x p ≡ true) h (same-place p))
  either-in c p (Some q) ps again h = by (nat_lt _ _) h
    where
      by : (b : Bool) → (if b then p else q) ≡ c → (is_same_place c p || list_any (is_same_place c) ps) ≡ true
      by true e = or_left (is_same_place c p) _ (subst (λ x. is_same_place x p ≡ true) e (same-place p))
      by false e = or_right (is_same_place c p) _ (subst (λ x. list_any (is_same_place x) ps ≡ true) e (again q refl))

  some-same : (p q : Place) → Some p ≡ Some q → p ≡ q
  some-same p q e = ap (λ (o : Option Place). option_map_or (λ x. x) o p) e

  counted_in : (ps : List Place) (c : Place) → counted ms ps ≡ Some c → list_any (is_same_place c) ps ≡ true
  counted_in [] c h = absurd (none-some c h)
  counted_in (p ∷ ps) c h =
      either-in c p (counted ms ps) ps (λ q e. counted_in ps q e) (some-same (greater ms p (counted ms ps)) c h)

  some_counts : (test : Place → Bool) (ps : List Place) → list_any test ps ≡ true → (c : Place) × (counted ms (filter test ps) ≡ Some c)
  some_counts test [] h = absurd (false≢true h)
  some_counts test (p ∷ ps) h = by (test p) h (some_counts test ps)
    where
      by : (b : Bool) → (b || list_any test ps) ≡ true → (list_any test ps ≡ true → (c : Place) × (counted ms (filter test ps) ≡ Some c))
          → (c : Place) × (counted ms (cond b (p ∷ filter test ps) (filter test ps)) ≡ Some c)
      by true g again = (greater ms p (counted ms (filter test ps)), refl)
      by false g again = again g

  -- one that is in a list and passes two tests
  passes_both : (c : Place) (first second : Place → Bool) → first c ≡ true → second c ≡ true → (ps : List Place)
      → list_any (is_same_place c) ps ≡ true → list_any second (filter first ps) ≡ true
  passes_both c first second e f [] h = absurd (false≢true h)
  passes_both c first second e f (p ∷ ps) h =
      elim (or_cases (is_same_place c p) (list_any (is_same_place c) ps) h) [
        | inl own ↦ (let same = place-same c p own in
            here (first p) (subst (λ x. first x ≡ true) same e) (subst (λ x. second x ≡ true) same f))
        | inr more ↦ behind (first p) (passes_both c first second e f ps more)
      ]
    where
      here : (b : Bool) → b ≡ true → second p ≡ true → list_any second (cond b (p ∷ filter first ps) (filter first ps)) ≡ true
      here true g k = or_left (second p) (list_any second (filter first ps)) k
      here false g k = absurd (false≢true g)

      behind : (b : Bool) → list_any second (filter first ps) ≡ true → list_any second (cond b (p ∷ filter first ps) (filter first ps)) ≡ true
      behind true g = or_right (second p) (list_any second (filter first ps)) g
      behind false g = g

  -- ---- of a declared name the one that counts, which is declared
  record HasCounted (kind : Tag → Bool) (name : Name) : Type 0 where
    place : Place
    counts : counted ms (named kind ms name) ≡ Some place
    declared : declares kind ms name place ≡ true
    inside : list_any (is_same_place place) (declarations ms) ≡ true

  has_counted : (kind : Tag → Bool) (name : Name) → is_declared kind ms name ≡ true → HasCounted kind name
  has_counted kind name h =
      let test = declares kind ms name in
      let found = some_counts test (declarations ms) h in
      record {
        place = found.0;
        counts = found.1;
        declared = counted-passes ms test (declarations ms) found.0 found.1;
        inside = any-kept (is_same_place found.0) test (declarations ms) (counted_in (filter test (declarations ms)) found.0 found.1);
      }

  -- ---- globals
  counts-global : (kind : Bool) (o : Option Name) (name : Name) (c : Place) → (kind && is_named name o) ≡ true
      → counted ms (named is_variable ms name) ≡ Some c
      → (if kind then option_map_or (λ own. option_map_or (is_same_place c) (counted ms (named is_variable ms own)) false) o false else false) ≡ true
  counts-global true None name c h e = absurd (false≢true h)
  counts-global true (Some own) name c h e =
      ap (λ (n : Name). option_map_or (is_same_place c) (counted ms (named is_variable ms n)) false) (sym (same-true name own h))
      ∙ ap (λ (o : Option Place). option_map_or (is_same_place c) o false) e ∙ same-place c
  counts-global false o name c h e = absurd (false≢true h)

  pub known_global : (name : Name) → has_global ms name ≡ true → (k : ℕ) × (global_number ms name ≡ Some k) × (k < length (globals ms))
  known_global name h =
      let found = has_counted is_variable name h in
      let c = found.place in
      let counts = counts-global (is_variable (tag_at ms c)) (name_at ms c) name c found.declared found.counts in
      position_found (declares is_variable ms name) (globals ms)
      (passes_both c (is_global ms) (declares is_variable ms name) counts found.declared (declarations ms) found.inside)

  -- ---- templates
  pub known_template : (name : Name) → is_template_name ms name ≡ true → (k : ℕ) × (template_number ms name ≡ Some k) × (k < length (templates ms))
  known_template name h =
      let found = has_counted is_template name h in
      let c = found.place in
      let tag = (and_parts (is_template (tag_at ms c)) (is_named name (name_at ms c)) found.declared).0 in
      let at = position_found (is_same_place c) (templates ms)
      (passes_both c (is_template_place ms) (is_same_place c)
      (ap (λ (b : Bool). if b then true else is_simplified (records_at ms c.0) c.1) tag) (same-place c) (declarations ms) found.inside) in
      (at.0, ap (λ (o : Option Place). option_and_then (λ p. position (is_same_place p) (templates ms)) o) found.counts ∙ at.1, at.2)
