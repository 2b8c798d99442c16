-- Meeting the faults at some nodes, and the least of numbers.
use Rattle.std.proofs.Common.{◌≡◌, ◌∙◌, ℕ, ap, refl, List, [], ◌∷◌, ◌++◌, filter, map, cond, Bool, true, false, Option}
use Rattle.std.specs.Prelude.{if◌then◌else◌, get_or, Result, Ok, Err, OnOk}
use Rattle.xs_static.specs.declared.fault.StaticFault.{StaticFault}
use Rattle.xs_static.specs.steps.Least.{earlier, fault_where, least_of}
use Rattle.xs_static.specs.steps.Misplaced.{misplaced_fault}

-- ---- the least of faults
pub least_append : (least : Option StaticFault) (fs gs : List StaticFault) → least_of (least_of least fs) gs ≡ least_of least (fs ++ gs)
unfolding least_of
least_append least [] gs = refl
least_append least (f ∷ fs) gs = least_append (earlier least f) fs gs

-- one of some nodes is met where it passes a test
module _ (m : ℕ) (lines : List ℕ) (p : ℕ → Bool) (k : ℕ) (ks : List ℕ) (least : Option StaticFault) where
  met : (holds : Bool) → holds ≡ p k
      → least_of (least_of least (fault_where holds m (get_or lines k 0) 37)) (map (misplaced_fault m lines) (filter p ks))
      ≡ least_of least (map (misplaced_fault m lines) (cond holds (k ∷ filter p ks) (filter p ks)))
  unfolding least_of
  met true e = refl
  met false e = refl

  pub met_next : (holds : Bool) → holds ≡ p k
      → least_of (least_of least (fault_where holds m (get_or lines k 0) 37)) (map (misplaced_fault m lines) (filter p ks))
      ≡ least_of least (map (misplaced_fault m lines) (filter p (k ∷ ks)))
  met_next holds e =
      met holds e ∙ ap (λ (b : Bool). least_of least (map (misplaced_fault m lines) (cond b (k ∷ filter p ks) (filter p ks)))) e

map-joined : {X Y : Type 0} (f : X → Y) (xs ys : List X) → map f xs ++ map f ys ≡ map f (xs ++ ys)
map-joined f [] ys = refl
map-joined f (x ∷ xs) ys = ap (λ zs. f x ∷ zs) (map-joined f xs ys)

own-fault : (m : ℕ) (lines : List ℕ) (n : ℕ) (holds : Bool)
    → fault_where holds m (get_or lines n 0) 37 ≡ map (misplaced_fault m lines) (if holds then n ∷ [] else [])
own-fault m lines n true = refl
own-fault m lines n false = refl

-- the nodes that are refused, and then the element itself
pub met_all : (m : ℕ) (lines ks : List ℕ) (n : ℕ) (holds : Bool) (least : Option StaticFault)
    → least_of (least_of least (map (misplaced_fault m lines) ks)) (fault_where holds m (get_or lines n 0) 37)
    ≡ least_of least (map (misplaced_fault m lines) (ks ++ (if holds then n ∷ [] else [])))
met_all m lines ks n holds least =
    least_append least (map (misplaced_fault m lines) ks) (fault_where holds m (get_or lines n 0) 37)
    ∙ ap (λ (fs : List StaticFault). least_of least (map (misplaced_fault m lines) ks ++ fs)) (own-fault m lines n holds)
    ∙ ap (least_of least) (map-joined (misplaced_fault m lines) ks (if holds then n ∷ [] else []))

-- ---- what holds of a result where another thing does
pub on_ok : {X E : Type 0} (r : Result X E) (P Q : Type 0) → (P → Q) → OnOk r P → OnOk r Q
on_ok (Ok x) P Q f h = f h
on_ok (Err e) P Q f h = h
