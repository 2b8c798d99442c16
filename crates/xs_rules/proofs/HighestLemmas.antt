-- The highest of those things that pass, as they are gone over from the last one.
use Rattle.std.proofs.Common.{◌≡◌, Bool, true, false, cond, List, [], ◌∷◌, ◌++◌, filter, length, arith, Option, None, refl, sym, ap, ◌∙◌}
use Rattle.xs_pattern_spec.specs.declared.ranks.Rank.{Rank}
use Rattle.xs_rules.specs.Ranks.{highest, or_above}

-- nothing is left of a list that was gone over
pub no_items : {A : Type 0} (xs : List A) → length xs ≡ 0 → xs ≡ []
no_items [] e = refl
no_items (x ∷ xs) e = absurd (omega (arith, e))

-- the highest of those that pass, before what stands after them
abbrev pub highest_before : {A : Type 0} → (A → Rank) → (A → Bool) → List A → Option A → Option A
highest_before rank p [] o = o
highest_before rank p (x ∷ xs) o = cond (p x) (or_above rank x (highest_before rank p xs o)) (highest_before rank p xs o)

pub highest-before : {A : Type 0} (rank : A → Rank) (p : A → Bool) (xs : List A) → highest_before rank p xs None ≡ highest rank (filter p xs)
highest-before rank p [] = refl
highest-before {A} rank p (x ∷ xs) = by_test (p x) (highest-before rank p xs)
  where
    by_test : (b : Bool) → highest_before rank p xs None ≡ highest rank (filter p xs)
        → cond b (or_above rank x (highest_before rank p xs None)) (highest_before rank p xs None) ≡ highest rank (cond b (x ∷ filter p xs) (filter p xs))
    by_test true e = ap (or_above rank x) e
    by_test false e = e

-- one more before those that were gone over
pub before-push : {A : Type 0} (rank : A → Rank) (p : A → Bool) (xs : List A) (x : A) (o : Option A)
    → highest_before rank p (xs ++ x ∷ []) o ≡ highest_before rank p xs (cond (p x) (or_above rank x o) o)
before-push rank p [] x o = refl
before-push rank p (y ∷ ys) x o = ap (λ h. cond (p y) (or_above rank y h) h) (before-push rank p ys x o)

pub push-on : {A : Type 0} (rank : A → Rank) (p : A → Bool) (xs before : List A) (x : A) (o b whole : Option A) → xs ≡ before ++ x ∷ []
    → highest_before rank p xs o ≡ whole → b ≡ cond (p x) (or_above rank x o) o → highest_before rank p before b ≡ whole
push-on rank p xs before x o b whole e i q =
    ap (highest_before rank p before) q ∙ sym (before-push rank p before x o) ∙ ap (λ l. highest_before rank p l o) (sym e) ∙ i
