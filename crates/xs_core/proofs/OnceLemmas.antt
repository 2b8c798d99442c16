-- In a good state each place is in the parts at most once, by the length of places.
use Rattle.std.proofs.Common.{◌≡◌, ◌≤◌, ◌+◌, ℕ, zero, suc, [], ◌∷◌, ◌++◌, Option, Some, None, Bool, true, false, cond, eqb}
use Rattle.std.proofs.Common.{refl, ap, ◌∙◌, arith, append_assoc, append-nil}
use Rattle.std.proofs.lemmas.Bool.Decides.{nat_tests}
use Rattle.xs_core.specs.declared.piece.Progress.{Progress}
use Rattle.xs_core.specs.Machine.{Place, Facts, State}
use Rattle.xs_core.specs.Good.{total, children, given_by, of_hand, places_of, children_of, held, IsGood, is_place}
use Rattle.xs_core.specs.Laws.{OnePart}
use Rattle.xs_core.proofs.ChildLemmas.{last-fewer}
use Rattle.xs_core.proofs.SumLemmas.{total-less, total-none}

-- a place one step below
pub root-never : (p : Place) (k : ℕ) → is_place [] (p ++ k ∷ []) ≡ 0
root-never [] k = refl
root-never (a ∷ p) k = refl

pub not-root : (p : Place) (k : ℕ) → is_place (p ++ k ∷ []) [] ≡ 0
not-root [] k = refl
not-root (a ∷ p) k = refl

-- of two places one step below
child-place : (p r : Place) (k j : ℕ) → is_place (p ++ k ∷ []) (r ++ j ∷ []) ≡ cond (eqb k j) (is_place p r) 0
child-place [] [] k j = refl
child-place [] (b ∷ r) k j = last (eqb k b) (eqb k j) r j
  where
    last : (c d : Bool) (r : Place) (j : ℕ) → cond c (is_place [] (r ++ j ∷ [])) 0 ≡ cond d 0 0
    last true true r j = root-never r j
    last true false r j = root-never r j
    last false true r j = refl
    last false false r j = refl
child-place (a ∷ p) [] k j = last (eqb a j) (eqb k j) p k
  where
    last : (c d : Bool) (p : Place) (k : ℕ) → cond c (is_place (p ++ k ∷ []) []) 0 ≡ cond d 0 0
    last true true p k = not-root p k
    last true false p k = not-root p k
    last false true p k = refl
    last false false p k = refl
child-place (a ∷ p) (b ∷ r) k j = both (eqb a b) (eqb k j) (child-place p r k j)
  where
    both : (c d : Bool) → is_place (p ++ k ∷ []) (r ++ j ∷ []) ≡ cond d (is_place p r) 0 →
        cond c (is_place (p ++ k ∷ []) (r ++ j ∷ [])) 0 ≡ cond d (cond c (is_place p r) 0) 0
    both true true e = e
    both true false e = e
    both false true e = refl
    both false false e = refl

-- the first n children of r, weighed at the child k of p
none-later : (p r : Place) (k n : ℕ) → n ≤ k → children (is_place (p ++ k ∷ [])) r n ≡ 0
none-later p r k zero h = refl
none-later p r k (suc n) h =
    let i = none-later p r k n (omega (arith, h)) in
    let e : eqb k n ≡ false = grind (arith, nat_tests, h) in
    let j : is_place (p ++ k ∷ []) (r ++ n ∷ []) ≡ 0 = child-place p r k n ∙ ap (λ b. cond b (is_place p r) 0) e in
    omega arith

pub children-at : (p r : Place) (k n : ℕ) → children (is_place (p ++ k ∷ [])) r n ≤ is_place p r
children-at p r k zero = omega arith
children-at p r k (suc n) = at (eqb k n) refl (children-at p r k n)
  where
    at : (c : Bool) → eqb k n ≡ c → children (is_place (p ++ k ∷ [])) r n ≤ is_place p r →
        children (is_place (p ++ k ∷ [])) r n + is_place (p ++ k ∷ []) (r ++ n ∷ []) ≤ is_place p r
    at true e i =
        let j : is_place (p ++ k ∷ []) (r ++ n ∷ []) ≡ is_place p r = child-place p r k n ∙ ap (λ b. cond b (is_place p r) 0) e in
        let s : n ≤ k = grind (arith, nat_tests, e) in
        let z = none-later p r k n s in
        omega arith
    at false e i =
        let j : is_place (p ++ k ∷ []) (r ++ n ∷ []) ≡ 0 = child-place p r k n ∙ ap (λ b. cond b (is_place p r) 0) e in
        omega arith

pub root-children : (r : Place) (n : ℕ) → children (is_place []) r n ≡ 0
root-children r zero = refl
root-children r (suc n) = let i = root-children r n in let j = root-never r n in omega arith

-- those that a piece has given are some of them
given-root : (f : Facts) (x : Progress) → given_by (is_place []) f x ≡ 0
given-root f x =
    let a = last-fewer (is_place []) x.place (f.holes x.place) x.given in
    let b = root-children x.place (f.holes x.place) in
    omega arith

given-at : (f : Facts) (p : Place) (k : ℕ) (x : Progress) → given_by (is_place (p ++ k ∷ [])) f x ≤ is_place p x.place
given-at f p k x =
    let a = last-fewer (is_place (p ++ k ∷ [])) x.place (f.holes x.place) x.given in
    let b = children-at p x.place k (f.holes x.place) in
    omega arith

hand-less : (f g : Progress → ℕ) (n : ℕ) → ((x : Progress) → f x ≤ g x) → (o : Option Progress) → of_hand f o ≤ n + of_hand g o
hand-less f g n h None = omega arith
hand-less f g n h (Some x) = let b = h x in omega arith

hand-none : (f : Progress → ℕ) → ((x : Progress) → f x ≡ 0) → (o : Option Progress) → of_hand f o ≡ 0
hand-none f h None = refl
hand-none f h (Some x) = h x

once-root : (f : Facts) (b : ℕ) (s : State) → IsGood f b s → held (is_place []) s ≤ 1
once-root f b s g =
    let c = g.counted (is_place []) in
    let w = total-none (children_of (is_place []) f) (λ w. hand-none (given_by (is_place []) f) (given-root f) w.hand) s.workers in
    let d = total-none (λ p. children (is_place []) p (f.holes p)) (λ p. root-children p (f.holes p)) s.finished in
    let e = total-none (given_by (is_place []) f) (given-root f) s.dropped in
    omega arith

once-step : (f : Facts) (b : ℕ) (s : State) → IsGood f b s → (p : Place) (k : ℕ) → held (is_place (p ++ k ∷ [])) s ≤ held (is_place p) s
once-step f b s g p k =
    let c = g.counted (is_place (p ++ k ∷ [])) in
    let z = not-root p k in
    let w = total-less (children_of (is_place (p ++ k ∷ [])) f) (places_of (is_place p))
    (λ w. hand-less (given_by (is_place (p ++ k ∷ [])) f) (λ x. is_place p x.place) (total (is_place p) w.deque) (given-at f p k) w.hand) s.workers in
    let d = total-less (λ r. children (is_place (p ++ k ∷ [])) r (f.holes r)) (is_place p) (λ r. children-at p r k (f.holes r)) s.finished in
    let e = total-less (given_by (is_place (p ++ k ∷ [])) f) (λ (x : Progress). is_place p x.place) (given-at f p k) s.dropped in
    omega arith

-- a place from its root on
pub along : (count : Place → ℕ) → ((p : Place) (k : ℕ) → count (p ++ k ∷ []) ≤ count p) → (p q : Place) → count (p ++ q) ≤ count p
along count step p [] = let e : count (p ++ []) ≡ count p = ap count (append-nil p) in omega arith
along count step p (k ∷ q) =
    let e : count ((p ++ k ∷ []) ++ q) ≡ count (p ++ k ∷ q) = ap count (append_assoc p (k ∷ []) q) in
    let a = along count step (p ++ k ∷ []) q in
    let c = step p k in
    omega arith

pub one-part : OnePart
one-part f b s g q =
    let a = along (λ r. held (is_place r) s) (once-step f b s g) [] q in
    let r = once-root f b s g in
    omega arith
