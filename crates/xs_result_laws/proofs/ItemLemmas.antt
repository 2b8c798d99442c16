-- What holds of each item of a list.
use Rattle.std.proofs.Common.{ℕ, zero, suc, List, [], ◌∷◌, ◌++◌, Option, None, Some, Bool, true, false, All, cond, filter, slice_get}
use Rattle.std.specs.List.{AllByRecursion}
use Rattle.std.proofs.lemmas.List.Elements.{All-head, All-tail}

abbrev pub OptionHas : {A : Type 0} → (A → Type 0) → Option A → Type 0
OptionHas P None = Unit {0}
OptionHas P (Some x) = P x

module _ {A : Type 0} (P : A → Type 0) where
  -- the item of a number
  pub item_has : (xs : List A) (i : ℕ) → AllByRecursion P xs → OptionHas P (slice_get xs i)
  item_has [] i h = tt
  item_has (x ∷ xs) zero h = h.0
  item_has (x ∷ xs) (suc i) h = item_has xs i h.1

  pub all_joined : (xs ys : List A) → AllByRecursion P xs → AllByRecursion P ys → AllByRecursion P (xs ++ ys)
  all_joined [] ys h k = k
  all_joined (x ∷ xs) ys h k = (h.0, all_joined xs ys h.1 k)

  pub all_filtered : (test : A → Bool) (xs : List A) → AllByRecursion P xs → AllByRecursion P (filter test xs)
  all_filtered test [] h = tt
  all_filtered test (x ∷ xs) h = by_test (test x) (all_filtered test xs h.1)
    where
      by_test : (t : Bool) → AllByRecursion P (filter test xs) → AllByRecursion P (cond t (x ∷ filter test xs) (filter test xs))
      by_test true rest = (h.0, rest)
      by_test false rest = rest

  -- each by its place, and by recursion
  pub all_by_place : (xs : List A) → All P xs → AllByRecursion P xs
  all_by_place [] h = tt
  all_by_place (x ∷ xs) h = (All-head P x xs h, all_by_place xs (All-tail P x xs h))
