-- Sums over the last children of a place.
use Rattle.std.proofs.Common.{◌≡◌, ◌<◌, ◌≤◌, ◌+◌, ◌-◌, ℕ, zero, suc, [], ◌∷◌, ◌++◌, refl, ap, ◌∙◌, arith}
use Rattle.xs_core.specs.Machine.{Place}
use Rattle.xs_core.specs.Good.{children, last_children}

-- none of them
pub last-none : (weight : Place → ℕ) (p : Place) (h : ℕ) → last_children weight p h 0 ≡ 0
last-none weight p zero = refl
last-none weight p (suc h) = refl

-- one more
pub last-next : (weight : Place → ℕ) (p : Place) (h n : ℕ) → n < h →
    last_children weight p h (n + 1) ≡ last_children weight p h n + weight (p ++ (h - (n + 1)) ∷ [])
last-next weight p zero n l = absurd (omega (arith, l))
last-next weight p (suc h) zero l =
    let z = last-none weight p h in
    let e : h ≡ suc h - (0 + 1) = omega arith in
    let w : weight (p ++ h ∷ []) ≡ weight (p ++ (suc h - (0 + 1)) ∷ []) = ap (λ k. weight (p ++ k ∷ [])) e in
    let s : last_children weight p (suc h) (0 + 1) ≡ weight (p ++ h ∷ []) + last_children weight p h 0 =
    let o : 0 + 1 ≡ 1 = omega arith in ap (last_children weight p (suc h)) o in
    omega arith
last-next weight p (suc h) (suc n) l =
    let i = last-next weight p h n (omega (arith, l)) in
    let e : h - (n + 1) ≡ suc h - (suc n + 1) = omega arith in
    let w : weight (p ++ (h - (n + 1)) ∷ []) ≡ weight (p ++ (suc h - (suc n + 1)) ∷ []) = ap (λ k. weight (p ++ k ∷ [])) e in
    let s : last_children weight p (suc h) (suc n + 1) ≡ weight (p ++ h ∷ []) + last_children weight p h (n + 1) =
    let o : suc n + 1 ≡ suc (n + 1) = omega arith in ap (last_children weight p (suc h)) o in
    omega arith

-- all of them
last-same : (weight : Place → ℕ) (p : Place) (h : ℕ) → last_children weight p h h ≡ children weight p h
last-same weight p zero = refl
last-same weight p (suc h) = let i = last-same weight p h in omega arith

pub last-all : (weight : Place → ℕ) (p : Place) (h n : ℕ) → n ≡ h → last_children weight p h n ≡ children weight p h
last-all weight p h n e = ap (last_children weight p h) e ∙ last-same weight p h

-- they are some of all
pub last-fewer : (weight : Place → ℕ) (p : Place) (h n : ℕ) → last_children weight p h n ≤ children weight p h
last-fewer weight p zero n = omega arith
last-fewer weight p (suc h) zero = omega arith
last-fewer weight p (suc h) (suc n) = let i = last-fewer weight p h n in omega arith
