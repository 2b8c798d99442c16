-- Texts that are empty or the same.
use Rattle.std.proofs.Common.{◌≡◌, ℕ, List, [], ◌∷◌, Bool, true, IsTrue, ◌↔◌, length, eqb, refl, arith}
use Rattle.std.proofs.lemmas.Bool.Decides.{nat_tests, same_from_decides}
use Rattle.std.proofs.lemmas.Slice.Eq.{bytes_eq-Decides}
use Rattle.std.specs.Str.{bytes_eq}
use Rattle.xs_build.specs.Namespaces.{is_empty}

pub empty_by_length : (xs : List ℕ) → is_empty xs ≡ eqb (length xs) 0
empty_by_length [] = refl
empty_by_length (x ∷ xs) = grind (arith, nat_tests)

pub same_bytes : (r : Bool) (a b : List ℕ) → IsTrue r ↔ (a ≡ b) → r ≡ bytes_eq a b
same_bytes r a b h = same_from_decides r (bytes_eq a b) h (bytes_eq-Decides a b)

pub same_as_empty : (a b : List ℕ) → eqb (length a) 0 ≡ true → eqb (length b) 0 ≡ bytes_eq a b
same_as_empty [] [] e = refl
same_as_empty [] (x ∷ xs) e = grind (arith, nat_tests)
same_as_empty (x ∷ xs) b e = absurd (grind (arith, nat_tests))
