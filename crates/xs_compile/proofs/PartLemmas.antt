-- Children that are parts of an element, one after another.
use Rattle.std.proofs.Common.{◌≡◌, ◌∙◌, ap, append_assoc, refl, List, [], ◌∷◌, ◌++◌, cond, filter, Bool, true, false}
use Rattle.std.specs.Prelude.{if◌then◌else◌}

module _ {X : Type 0} (test : X → Bool) where
  pushed : (x : X) (xs old : List X) (b : Bool)
      → (if b then old ++ x ∷ [] else old) ++ filter test xs ≡ old ++ cond b (x ∷ filter test xs) (filter test xs)
  pushed x xs old true = append_assoc old (x ∷ []) (filter test xs)
  pushed x xs old false = refl

  -- one more, if it passes a test
  pub part_more : (x : X) (xs old new whole : List X) → new ≡ (if test x then old ++ x ∷ [] else old) → old ++ filter test (x ∷ xs) ≡ whole
      → new ++ filter test xs ≡ whole
  part_more x xs old new whole e so = ap (λ (ys : List X). ys ++ filter test xs) e ∙ pushed x xs old (test x) ∙ so
