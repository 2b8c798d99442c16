-- Sums of weights, where a list is changed at one place or at its end.
use Rattle.std.proofs.Common.{◌≡◌, ◌+◌, ◌≤◌, ℕ, zero, suc, List, [], ◌∷◌, ◌++◌, slice_get, set, Some, refl, ap, arith}
use Rattle.xs_core.specs.Good.{total}

pub total-set : {X : Type 0} → (f : X → ℕ) (xs : List X) (i : ℕ) (x y : X) → slice_get xs i ≡ Some x → total f (set xs i y) + f x ≡ total f xs + f y
total-set f [] i x y e = absurd (cc)
total-set f (z ∷ xs) zero x y e = let a : z ≡ x = cc in let b : f z ≡ f x = ap f a in omega arith
total-set f (z ∷ xs) (suc i) x y e = let a = total-set f xs i x y e in omega arith

pub total-push : {X : Type 0} → (f : X → ℕ) (xs : List X) (x : X) → total f (xs ++ x ∷ []) ≡ total f xs + f x
total-push f [] x = omega arith
total-push f (y ∷ xs) x = let a = total-push f xs x in omega arith

pub total-less : {X : Type 0} → (f g : X → ℕ) → ((x : X) → f x ≤ g x) → (xs : List X) → total f xs ≤ total g xs
total-less f g h [] = omega arith
total-less f g h (x ∷ xs) = let a = total-less f g h xs in let b = h x in omega arith

pub total-none : {X : Type 0} → (f : X → ℕ) → ((x : X) → f x ≡ 0) → (xs : List X) → total f xs ≡ 0
total-none f h [] = refl
total-none f h (x ∷ xs) = let a = total-none f h xs in let b = h x in omega arith

pub total-add : {X : Type 0} → (f g h : X → ℕ) → ((x : X) → h x ≡ f x + g x) → (xs : List X) → total h xs ≡ total f xs + total g xs
total-add f g h e [] = omega arith
total-add f g h e (x ∷ xs) = let a = total-add f g h e xs in let b = e x in omega arith
