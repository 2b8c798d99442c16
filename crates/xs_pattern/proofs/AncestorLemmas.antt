-- What holds of a node or of one of its ancestors.
use Rattle.std.proofs.Common.{◌≡◌, ℕ, zero, suc, ◌+◌, ◌<◌, ◌≤◌, ◌==◌, ◌||◌, ◌&&◌, Bool, true, false, cond, List, [], ◌∷◌, filter, length}
use Rattle.std.proofs.Common.{Option, None, Some, refl, sym, ap, subst, ◌∙◌, arith, ◌⊎◌, inl, inr}
use Rattle.std.proofs.lemmas.Bool.{and_from, and_parts, cases_eq, eq-eqb, eqb-true, or_cases, or_left, or_right, true≢false}
use Rattle.std.proofs.lemmas.List.Sorted.{IsPermutation-reverse, list_any-IsPermutation}
use Rattle.std.specs.List.{list_any, range_with_len}
use Rattle.xs_tree.specs.declared.axes.Axis.TheVariants.{AncestorOrSelf}
use Rattle.xs_tree.specs.Axis.{axis_list, is_ancestor, is_on}
use Rattle.xs_tree.specs.Record.{Record, at, climbs, places}
use Rattle.xs_tree.specs.Shape.{IsTree}
use Rattle.xs_tree.proofs.WalkLemmas.{IsPlaced-at, IsWithin, climbs-within, climbs-from_within}

-- two tests of which each gives the other
pub same : (a b : Bool) → (a ≡ true → b ≡ true) → (b ≡ true → a ≡ true) → a ≡ b
same true b f g = sym (f refl)
same false true f g = g refl
same false false f g = refl

-- ---- some node of a list

pub any-filter : (f t : ℕ → Bool) (xs : List ℕ) → list_any f (filter t xs) ≡ list_any (λ k. t k && f k) xs
any-filter f t [] = refl
any-filter f t (x ∷ xs) = by_test (t x) (any-filter f t xs)
  where
    by_test : (b : Bool) → list_any f (filter t xs) ≡ list_any (λ k. t k && f k) xs
        → list_any f (cond b (x ∷ filter t xs) (filter t xs)) ≡ ((b && f x) || list_any (λ k. t k && f k) xs)
    by_test true e = ap (λ b. f x || b) e
    by_test false e = e

-- a place that passes
pub any-from : (f : ℕ → Bool) (a n k : ℕ) → a ≤ k → k < a + n → f k ≡ true → list_any f (range_with_len a n) ≡ true
any-from f a zero k h b e = absurd (omega arith)
any-from f a (suc n) k h b e =
    elim (cases_eq a k) [
      | inl s ↦ or_left (f a) (list_any f (range_with_len (a + 1) n)) (subst (λ (j : ℕ). f j ≡ true) (sym s) e)
      | inr ne ↦ or_right (f a) (list_any f (range_with_len (a + 1) n)) (any-from f (a + 1) n k (omega (arith, ne, h)) (omega (arith, b)) e)
    ]

pub any-to : (f : ℕ → Bool) (a n : ℕ) → list_any f (range_with_len a n) ≡ true → (k : ℕ) × (k < a + n) × (f k ≡ true)
any-to f a zero h = absurd (true≢false (sym h))
any-to f a (suc n) h =
    elim (or_cases (f a) (list_any f (range_with_len (a + 1) n)) h) [
      | inl e ↦ (a, omega arith, e)
      | inr e ↦ (let w : (k : ℕ) × (k < a + 1 + n) × (f k ≡ true) = any-to f (a + 1) n e in (w.0, omega (arith, w.1), w.2))
    ]

-- ---- ancestors

-- a chain of parents needs no more steps than there are nodes before its first
climbs-same : (rs : List Record) (steps n k : ℕ) → IsTree rs → k < length rs → k ≤ steps → climbs steps rs n k ≡ climbs k rs n k
climbs-same rs steps n k t w le =
    same (climbs steps rs n k) (climbs k rs n k)
    (λ h. let within : IsWithin rs n k = climbs-within rs t steps n k w h in climbs-from_within rs t k n k w (omega arith) within.0 within.1)
    (λ h. let within : IsWithin rs n k = climbs-within rs t k n k w h in climbs-from_within rs t steps n k w le within.0 within.1)

-- the ancestors of a node are its parent and the ancestors of that
ancestor-parent : (rs : List Record) (n p k : ℕ) → IsTree rs → n < length rs → (at rs n).parent ≡ Some p → is_ancestor rs n k ≡ (p == k || is_ancestor rs p k)
ancestor-parent rs zero p k t h e = absurd (omega (arith, (IsPlaced-at rs 0 p t h e).before))
ancestor-parent rs (suc m) p k t h e =
    let before : p < suc m = (IsPlaced-at rs (suc m) p t h e).before in
    rw (e, climbs-same rs m k p t (omega (arith, before, h)) (omega (arith, before))) refl

no_ancestor : (rs : List Record) (n k : ℕ) → (at rs n).parent ≡ None → is_ancestor rs n k ≡ false
no_ancestor rs zero k e = refl
no_ancestor rs (suc m) k e = rw e refl

-- whether a node or one of its ancestors passes
abbrev pub any_above : (ℕ → Bool) → List Record → ℕ → Bool
any_above f rs n = list_any f (axis_list AncestorOrSelf rs n)

any-places : (f : ℕ → Bool) (rs : List Record) (n : ℕ) → any_above f rs n ≡ list_any (λ k. is_on AncestorOrSelf rs n k && f k) (places rs)
unfolding axis_list
any-places f rs n =
    sym (list_any-IsPermutation f (filter (is_on AncestorOrSelf rs n) (places rs)) _ (IsPermutation-reverse (filter (is_on AncestorOrSelf rs n) (places rs))))
    ∙ any-filter f (is_on AncestorOrSelf rs n) (places rs)

-- one that is there passes
pub any-here : (f : ℕ → Bool) (rs : List Record) (n k : ℕ) → k < length rs → is_on AncestorOrSelf rs n k ≡ true → f k ≡ true → any_above f rs n ≡ true
any-here f rs n k h on e =
    any-places f rs n
    ∙ any-from (λ j. is_on AncestorOrSelf rs n j && f j) 0 (length rs) k (omega arith) (omega (arith, h))
    (and_from (is_on AncestorOrSelf rs n k) (f k) on e)

-- a node that passes, above another or that one
pub any-there : (f : ℕ → Bool) (rs : List Record) (n : ℕ) → any_above f rs n ≡ true
    → (k : ℕ) × (k < length rs) × ((is_on AncestorOrSelf rs n k && f k) ≡ true)
any-there f rs n h =
    let w : (k : ℕ) × (k < 0 + length rs) × ((is_on AncestorOrSelf rs n k && f k) ≡ true) =
    any-to (λ j. is_on AncestorOrSelf rs n j && f j) 0 (length rs) (sym (any-places f rs n) ∙ h) in
    (w.0, omega (arith, w.1), w.2)

-- the node itself
pub any-self : (f : ℕ → Bool) (rs : List Record) (n : ℕ) → n < length rs → f n ≡ true → any_above f rs n ≡ true
any-self f rs n h e = any-here f rs n n h (or_left (n == n) (is_ancestor rs n n) (eq-eqb n n refl)) e

-- what passes above the parent passes above the node
pub any-parent : (f : ℕ → Bool) (rs : List Record) (n p : ℕ) → IsTree rs → n < length rs → (at rs n).parent ≡ Some p → any_above f rs p ≡ true
    → any_above f rs n ≡ true
any-parent f rs n p t h e up =
    let w : (k : ℕ) × (k < length rs) × ((is_on AncestorOrSelf rs p k && f k) ≡ true) = any-there f rs p up in
    let k : ℕ = w.0 in
    let both : (is_on AncestorOrSelf rs p k ≡ true) × (f k ≡ true) = and_parts (is_on AncestorOrSelf rs p k) (f k) w.2 in
    any-here f rs n k w.1
    (or_right (k == n) (is_ancestor rs n k) (ancestor-parent rs n p k t h e ∙ turned k (or_cases (k == p) (is_ancestor rs p k) both.0)))
    both.1
  where
    turned : (k : ℕ) → ((k == p) ≡ true) ⊎ (is_ancestor rs p k ≡ true) → (p == k || is_ancestor rs p k) ≡ true
    turned k (inl q) = or_left (p == k) (is_ancestor rs p k) (eq-eqb p k (sym (eqb-true k p q)))
    turned k (inr q) = or_right (p == k) (is_ancestor rs p k) q

-- and the other way round, where the node itself does not
pub any-beyond : (f : ℕ → Bool) (rs : List Record) (n : ℕ) → IsTree rs → n < length rs → any_above f rs n ≡ true
    → (f n ≡ true) ⊎ ((p : ℕ) × ((at rs n).parent ≡ Some p) × (any_above f rs p ≡ true))
any-beyond f rs n t h up =
    let w : (k : ℕ) × (k < length rs) × ((is_on AncestorOrSelf rs n k && f k) ≡ true) = any-there f rs n up in
    let k : ℕ = w.0 in
    let both : (is_on AncestorOrSelf rs n k ≡ true) × (f k ≡ true) = and_parts (is_on AncestorOrSelf rs n k) (f k) w.2 in
    elim (or_cases (k == n) (is_ancestor rs n k) both.0) [
      | inl q ↦ inl (subst (λ (j : ℕ). f j ≡ true) (eqb-true k n q) both.1)
      | inr q ↦ inr (by_parent k w.1 both.1 q (at rs n).parent refl)
    ]
  where
    by_parent : (k : ℕ) → k < length rs → f k ≡ true → is_ancestor rs n k ≡ true → (o : Option ℕ) → (at rs n).parent ≡ o
        → (p : ℕ) × ((at rs n).parent ≡ Some p) × (any_above f rs p ≡ true)
    by_parent k lt e q None o = absurd (true≢false (sym q ∙ no_ancestor rs n k o))
    by_parent k lt e q (Some p) o =
        (p, o, any-here f rs p k lt (turned k p (or_cases (p == k) (is_ancestor rs p k) (sym (ancestor-parent rs n p k t h o) ∙ q))) e)
      where
        turned : (k p : ℕ) → ((p == k) ≡ true) ⊎ (is_ancestor rs p k ≡ true) → (k == p || is_ancestor rs p k) ≡ true
        turned k p (inl q) = or_left (k == p) (is_ancestor rs p k) (eq-eqb k p (sym (eqb-true p k q)))
        turned k p (inr q) = or_right (k == p) (is_ancestor rs p k) q

-- where the node itself does not pass, one above it does where one above its parent does
pub any-up : (f : ℕ → Bool) (rs : List Record) (n p : ℕ) → IsTree rs → n < length rs → (at rs n).parent ≡ Some p → f n ≡ false
    → any_above f rs n ≡ any_above f rs p
any-up f rs n p t h e differs =
    same (any_above f rs n) (any_above f rs p)
    (λ up. elim (any-beyond f rs n t h up) [
      | inl q ↦ absurd (true≢false (sym q ∙ differs))
      | inr w ↦ (let i : Some w.0 ≡ Some p = sym w.1 ∙ e in let j : w.0 ≡ p = cc in subst (λ (k : ℕ). any_above f rs k ≡ true) j w.2)
    ])
    (any-parent f rs n p t h e)

pub any-root : (f : ℕ → Bool) (rs : List Record) (n : ℕ) → IsTree rs → n < length rs → (at rs n).parent ≡ None → f n ≡ false → any_above f rs n ≡ false
any-root f rs n t h e differs =
    same (any_above f rs n) false
    (λ up. elim (any-beyond f rs n t h up) [
      | inl q ↦ absurd (true≢false (sym q ∙ differs))
      | inr w ↦ (let i : Some w.0 ≡ None = sym w.1 ∙ e in absurd (cc))
    ])
    (λ q. absurd (true≢false (sym q)))

any-of : (f g : ℕ → Bool) (rs : List Record) (n : ℕ) → ((k : ℕ) → k < length rs → f k ≡ g k) → any_above f rs n ≡ true → any_above g rs n ≡ true
any-of f g rs n h e =
    let w : (k : ℕ) × (k < length rs) × ((is_on AncestorOrSelf rs n k && f k) ≡ true) = any-there f rs n e in
    let both : (is_on AncestorOrSelf rs n w.0 ≡ true) × (f w.0 ≡ true) = and_parts (is_on AncestorOrSelf rs n w.0) (f w.0) w.2 in
    any-here g rs n w.0 w.1 both.0 (sym (h w.0 w.1) ∙ both.1)

-- two tests that say the same of each node
pub any-same : (f g : ℕ → Bool) (rs : List Record) (n : ℕ) → ((k : ℕ) → k < length rs → f k ≡ g k) → any_above f rs n ≡ any_above g rs n
any-same f g rs n h = same (any_above f rs n) (any_above g rs n) (any-of f g rs n h) (any-of g f rs n (λ k lt. sym (h k lt)))
