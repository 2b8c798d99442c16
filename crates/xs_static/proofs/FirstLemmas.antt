-- The first place of a circular declaration.
use Rattle.std.proofs.Common.{◌≡◌, ℕ, ◌<◌, ◌≤◌, Bool, true, false, List, [], ◌∷◌, ◌++◌, Option, Some, None, refl, sym, ap, subst, ◌∙◌, inl, inr, arith, length, take, get_or, ◌+◌}
use Rattle.std.specs.Prelude.{◌⊎◌}
use Rattle.std.specs.Bool.{MatchBool}
use Rattle.std.proofs.lemmas.Bool.Decides.{nat_tests}
use Rattle.std.proofs.lemmas.List.{map-append, take_more, take_all}
use Rattle.xs_static.specs.declared.circles.Declaration.{Declaration}
use Rattle.xs_static.specs.declared.circles.Place.{Place}
use Rattle.xs_static.specs.Circles.{Declared, IsCircular, IsFirstOf, IsAmong, is_at_most}
use Rattle.xs_static.specs.steps.First.{Takes, is_past, past, straight, circular}
use Rattle.xs_static.specs.Declarations.{declared, declared_all}
use Rattle.xs_static.proofs.SearchLemmas.{in-back, in-either, in-front, in-one}

-- ---- the order of places
less-or-same : (p q : Place) → is_at_most p q ≡ false → is_at_most q p ≡ true
less-or-same p q h = grind (arith, nat_tests)

then-less : (p q r : Place) → is_at_most p q ≡ true → is_at_most q r ≡ true → is_at_most p r ≡ true
then-less p q r h k = grind (arith, nat_tests)

same-place : (p : Place) → is_at_most p p ≡ true
same-place p = grind (arith, nat_tests)

-- ---- what a test reported
pub reported-true : (P Q : Type 0) (b : Bool) → b ≡ true → MatchBool b P Q → P
reported-true P Q true e h = h
reported-true P Q false e h = cc

pub reported-false : (P Q : Type 0) (b : Bool) → b ≡ false → MatchBool b P Q → Q
reported-false P Q true e h = cc
reported-false P Q false e h = h

-- ---- one declaration more
pub first-none : (ds : List Declared) → IsFirstOf ds [] None
first-none ds = λ d h circle. h

-- the last one, or one before it
last-or : (d e : Declared) (xs : List Declared) → IsAmong e (xs ++ d ∷ []) → (d ≡ e) ⊎ IsAmong e xs
last-or d e xs h = elim (in-either e xs (d ∷ []) h) [ inl a ↦ inr a | inr b ↦ inl (in-one e d b) ]

-- the first place stays
stays : (ds xs : List Declared) (d : Declared) (before : Option Place) → IsFirstOf ds xs before
    → (IsCircular ds d → is_past before d.place ≡ true) → IsFirstOf ds (xs ++ d ∷ []) before
stays ds xs d None first fine = λ e h circle.
    elim (last-or d e xs h) [
      | inl same ↦ let P : Declared → Type 0 = λ x. IsCircular ds x in cc (fine (subst P (sym same) circle))
      | inr old ↦ first e old circle
    ]
stays ds xs d (Some place) first fine = (
  (first.0.0, in-front first.0.0 xs (d ∷ []) first.0.1, first.0.2, first.0.3),
  λ e h circle. elim (last-or d e xs h) [
    | inl same ↦
        let P : Declared → Type 0 = λ x. IsCircular ds x in
        let Q : Declared → Type 0 = λ x. is_at_most place x.place ≡ true in
        subst Q same (fine (subst P (sym same) circle))
    | inr old ↦ first.1 e old circle
  ],
)

-- a new place comes before the one that was the first
comes-first : (ds xs : List Declared) (d : Declared) (before : Option Place) → IsFirstOf ds xs before → IsCircular ds d
    → is_past before d.place ≡ false → IsFirstOf ds (xs ++ d ∷ []) (Some d.place)
comes-first ds xs d None first circle behind = (
  (d, in-back d xs (d ∷ []) (inl refl), circle, refl),
  λ e h other. elim (last-or d e xs h) [
    | inl same ↦ let Q : Declared → Type 0 = λ x. is_at_most d.place x.place ≡ true in subst Q same (same-place d.place)
    | inr old ↦ absurd (first e old other)
  ],
)
comes-first ds xs d (Some place) first circle behind = (
  (d, in-back d xs (d ∷ []) (inl refl), circle, refl),
  λ e h other. elim (last-or d e xs h) [
    | inl same ↦ let Q : Declared → Type 0 = λ x. is_at_most d.place x.place ≡ true in subst Q same (same-place d.place)
    | inr old ↦ then-less d.place place e.place (less-or-same place d.place behind) (first.1 e old other)
  ],
)

pub first-more : (ds xs : List Declared) (d : Declared) (before now : Option Place) → IsFirstOf ds xs before → Takes ds d before now
    → IsFirstOf ds (xs ++ d ∷ []) now
first-more ds xs d before now first (past same is) =
    let P : Option Place → Type 0 = λ o. IsFirstOf ds (xs ++ d ∷ []) o in subst P (sym same) (stays ds xs d before first (λ c. is))
first-more ds xs d before now first (straight same not_circular) =
    let P : Option Place → Type 0 = λ o. IsFirstOf ds (xs ++ d ∷ []) o in subst P (sym same) (stays ds xs d before first (λ c. absurd (not_circular c)))
first-more ds xs d before now first (circular same behind is) =
    let P : Option Place → Type 0 = λ o. IsFirstOf ds (xs ++ d ∷ []) o in subst P (sym same) (comes-first ds xs d before first is behind)

-- the same, of the declarations as the code has them
pub first-on : (all : List Declaration) (i : ℕ) (d : Declaration) (before now : Option Place) → i < length all → d ≡ get_or all i d
    → IsFirstOf (declared_all all) (declared_all (take i all)) before → Takes (declared_all all) (declared d) before now
    → IsFirstOf (declared_all all) (declared_all (take (i + 1) all)) now
first-on all i d before now lt is first takes =
    let P : List Declared → Type 0 = λ xs. IsFirstOf (declared_all all) xs now in
    let e : declared_all (take (i + 1) all) ≡ declared_all (take i all) ++ declared d ∷ [] =
    ap declared_all (take_more all i d lt ∙ ap (λ x. take i all ++ x ∷ []) (sym is)) ∙ map-append declared (take i all) (d ∷ []) in
    subst P (sym e) (first-more (declared_all all) (declared_all (take i all)) (declared d) before now first takes)

pub first-whole : (all : List Declaration) (i : ℕ) (first : Option Place) → length all ≤ i
    → IsFirstOf (declared_all all) (declared_all (take i all)) first → IsFirstOf (declared_all all) (declared_all all) first
first-whole all i first le h =
    let P : List Declaration → Type 0 = λ xs. IsFirstOf (declared_all all) (declared_all xs) first in subst P (take_all i all le) h
