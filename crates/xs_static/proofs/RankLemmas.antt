-- Where ranks rise along no use, a name that is above all that a declaration uses is not led back to.
use Rattle.std.proofs.Common.{◌≡◌, ℕ, ◌<◌, ◌≤◌, Bool, true, false, List, [], ◌∷◌, ◌++◌, map, refl, sym, ap, subst, ◌∙◌, inl, inr, arith}
use Rattle.std.specs.Prelude.{◌&&◌, nat_le, nat_lt, if◌then◌else◌}
use Rattle.std.specs.Borrow.{Bor}
use Rattle.std.specs.List.{list_all}
use Rattle.std.proofs.lemmas.Bool.Decides.{nat_tests}
use Rattle.xs_static.specs.declared.circles.Declaration.{Declaration}
use Rattle.xs_static.specs.declared.name_numbers.Numbers.{Numbers}
use Rattle.xs_static.specs.Circles.{Declared, IsCircular, IsAmong, LeadsTo, by_use, is_of, itself, used_by}
use Rattle.xs_elements.specs.Nodes.{Name, is_same_name, name_data}
use Rattle.xs_static.specs.Declarations.{declared, declared_all}
use Rattle.xs_static.specs.steps.Ranks.{falls, number_in, rises_nowhere}
use Rattle.xs_static.proofs.SameNameLemmas.{same-true}
use Rattle.xs_static.proofs.SearchLemmas.{in-either}
use Rattle.xs_static.proofs.UsedLemmas.{used-append, used-one}

both : (a b : Bool) → (a && b) ≡ true → (a ≡ true) × (b ≡ true)
both true b h = (refl, h)
both false b h = cc

less : (m n : ℕ) → nat_lt m n ≡ true → m < n
less m n h = grind (arith, nat_tests)

at-most : (m n : ℕ) → nat_le m n ≡ true → m ≤ n
at-most m n h = grind (arith, nat_tests)

-- what a declaration uses is below its name, or not above it
below-own : (ranks : Numbers) (top : ℕ) (items : List (Bor (List ℕ) × Bor (List ℕ)))
    → list_all (λ used. nat_lt (number_in ranks (name_data used)) top) items ≡ true → (u : Name) → IsAmong u (map name_data items)
    → number_in ranks u < top
below-own ranks top [] h u none = absurd none
below-own ranks top (x ∷ xs) h u (inl e) =
    let P : Name → Type 0 = λ n. number_in ranks n < top in
    subst P e (less (number_in ranks (name_data x)) top (both (nat_lt (number_in ranks (name_data x)) top) _ h).0)
below-own ranks top (x ∷ xs) h u (inr listed) = below-own ranks top xs (both (nat_lt (number_in ranks (name_data x)) top) _ h).1 u listed

not-above-own : (ranks : Numbers) (top : ℕ) (items : List (Bor (List ℕ) × Bor (List ℕ)))
    → list_all (λ used. nat_le (number_in ranks (name_data used)) top) items ≡ true → (u : Name) → IsAmong u (map name_data items)
    → number_in ranks u ≤ top
not-above-own ranks top [] h u none = absurd none
not-above-own ranks top (x ∷ xs) h u (inl e) =
    let P : Name → Type 0 = λ n. number_in ranks n ≤ top in
    subst P e (at-most (number_in ranks (name_data x)) top (both (nat_le (number_in ranks (name_data x)) top) _ h).0)
not-above-own ranks top (x ∷ xs) h u (inr listed) = not-above-own ranks top xs (both (nat_le (number_in ranks (name_data x)) top) _ h).1 u listed

not-above : (ranks : Numbers) (ds : List Declaration) → list_all (rises_nowhere ranks) ds ≡ true → (d : Declared) → IsAmong d (declared_all ds)
    → (u : Name) → IsAmong u d.sets → number_in ranks u ≤ number_in ranks d.name
not-above ranks [] h d none u listed = absurd none
not-above ranks (x ∷ xs) h d (inl e) u listed =
    let P : Declared → Type 0 = λ (o : Declared). (n : Name) → IsAmong n o.sets → number_in ranks n ≤ number_in ranks o.name in
    subst P e (not-above-own ranks (number_in ranks (name_data x.name)) x.sets.items (both (rises_nowhere ranks x) (list_all (rises_nowhere ranks) xs) h).0)
    u listed
not-above ranks (x ∷ xs) h d (inr behind) u listed =
    not-above ranks xs (both (rises_nowhere ranks x) (list_all (rises_nowhere ranks) xs) h).1 d behind u listed

-- of what a name uses, some declaration of the name uses it
abbrev UsedIn : List Declared → Name → Name → Type 0
UsedIn ds n u = (d : Declared) × IsAmong d ds × (is_same_name d.name n ≡ true) × IsAmong u d.sets

used-here : (d : Declared) (n u : Name) (ds : List Declared) (t : Bool) → is_of n d ≡ t → IsAmong u (if t then d.sets else []) → UsedIn (d ∷ ds) n u
used-here d n u ds true same h = (d, inl refl, same, h)
used-here d n u ds false same h = absurd h

used-in : (ds : List Declared) (n u : Name) → IsAmong u (used_by ds n) → UsedIn ds n u
used-in [] n u h = absurd h
used-in (d ∷ ds) n u h =
    let P : List Name → Type 0 = λ xs. IsAmong u xs in
    let parts : IsAmong u ((if is_of n d then d.sets else []) ++ used_by ds n) =
    subst P (used-append (d ∷ []) ds n ∙ ap (λ xs. xs ++ used_by ds n) (used-one d n)) h in
    elim (in-either u (if is_of n d then d.sets else []) (used_by ds n) parts) [
      | inl a ↦ used-here d n u ds (is_of n d) refl a
      | inr b ↦ let rest = used-in ds n u b in (rest.0, inr rest.1, rest.2, rest.3)
    ]

module _ (ranks : Numbers) (ds : List Declaration) (ranked : list_all (rises_nowhere ranks) ds ≡ true) where
  used-not-above : (n u : Name) → IsAmong u (used_by (declared_all ds) n) → number_in ranks u ≤ number_in ranks n
  used-not-above n u h =
      let some = used-in (declared_all ds) n u h in
      let P : Name → Type 0 = λ m. number_in ranks u ≤ number_in ranks m in
      subst P (same-true some.0.name n some.2) (not-above ranks ds ranked some.0 some.1 u some.3)

  leads-below : (goal n : Name) → LeadsTo (used_by (declared_all ds)) goal n → number_in ranks goal ≤ number_in ranks n
  leads-below goal n (itself e) = let same : number_in ranks n ≡ number_in ranks goal = ap (number_in ranks) e in omega arith
  leads-below goal n (by_use u h leads) =
      let low : number_in ranks goal ≤ number_in ranks u = leads-below goal u leads in
      let high : number_in ranks u ≤ number_in ranks n = used-not-above n u h in
      omega arith

  pub no-circle : (d : Declaration) → falls ranks d ≡ true → IsCircular (declared_all ds) (declared d) → ⊥
  no-circle d fall circle =
      let low : number_in ranks (name_data d.name) ≤ number_in ranks circle.0 = leads-below (name_data d.name) circle.0 circle.2 in
      let high : number_in ranks circle.0 < number_in ranks (name_data d.name) =
      below-own ranks (number_in ranks (name_data d.name)) d.sets.items fall circle.0 circle.1 in
      omega arith

-- what a test of both reports
pub reported-both : (a b : Bool) → true ≡ (a && b) → (a ≡ true) × (b ≡ true)
reported-both a b h = both a b (sym h)
