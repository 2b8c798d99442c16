-- A list has one order in which it rises, where its order distinguishes all elements: the order of globals is one.
use Rattle.std.proofs.Common.{◌≡◌, ℕ, suc, ◌+◌, ◌<◌, length, List, [], ◌∷◌, map, get_or, Bool, true, false, cond, sum_by, refl, sym, ap, subst, ◌∙◌, arith}
use Rattle.std.proofs.lemmas.Bool.{true≢false}
use Rattle.std.proofs.lemmas.Cmp.{upto, tied_itself, on_total, then_total, nat_cmp_total, ranked}
use Rattle.std.proofs.lemmas.List.Sums.{sum_by-cons}
use Rattle.std.proofs.lemmas.List.Sorted.{sum_by-IsPermutation}
use Rattle.std.specs.List.Sorted.{IsSortedBy}
use Rattle.std.specs.Cmp.{IsTotalOrder}
use Rattle.std.specs.Ordering.{is_gt, is_lt, nat_cmp, ordering_reverse, ordering_then}
use Rattle.std.specs.declared.cmp.Ordering.{Ordering}
use Rattle.std.specs.declared.cmp.Ordering.TheVariants.{Less, Equal, Greater}
use Rattle.xs_sheet.specs.declared.declarations.Global.{Global}
use Rattle.xs_body_spec.specs.Globals.{IsInOrder, by_place, placed}

-- ---- one rising list
module _ {X : Type 0} (lt : X → X → Bool) (itself : (x : X) → lt x x ≡ false) (chain : (x y z : X) → lt x y ≡ false → lt y z ≡ false → lt x z ≡ false)
    (one : (x y : X) → lt x y ≡ false → lt y x ≡ false → x ≡ y) where
  abbrev AllAbove : X → List X → Type 0
  AllAbove x [] = Unit {0}
  AllAbove x (y ∷ ys) = (lt y x ≡ false) × AllAbove x ys

  abbrev Rises : List X → Type 0
  Rises [] = Unit {0}
  Rises (x ∷ xs) = AllAbove x xs × Rises xs

  all-above : (x y : X) → lt y x ≡ false → (zs : List X) → AllAbove y zs → AllAbove x zs
  all-above x y l [] a = tt
  all-above x y l (z ∷ zs) a = (chain z y x a.0 l, all-above x y l zs a.1)

  above-first : (x : X) (xs : List X) → IsSortedBy lt (x ∷ xs) → Rises xs → AllAbove x xs
  above-first x [] s r = tt
  above-first x (y ∷ ys) s r =
      let l : lt y x ≡ false = s 0 y (omega arith) (omega arith) in
      (l, all-above x y l ys r.0)

  rises : (xs : List X) → IsSortedBy lt xs → Rises xs
  rises [] s = tt
  rises (x ∷ xs) s =
      let rest : IsSortedBy lt xs = λ k d a b.
      let next : suc k + 1 ≡ suc (k + 1) = omega arith in
      let far : suc k + 1 < length (x ∷ xs) = omega (arith, b) in
      subst (λ j. lt (get_or (x ∷ xs) j d) (get_or xs k d) ≡ false) next (s (suc k) d (omega arith) far) in
      let r : Rises xs = rises xs rest in
      (above-first x xs s r, r)

  abbrev bit : Bool → ℕ
  bit b = cond b 1 0

  abbrev under : X → X → ℕ
  under x z = bit (lt z x)

  not-under : (b : Bool) → bit b ≡ 0 → b ≡ false
  not-under true e = absurd (omega (arith, e))
  not-under false e = refl

  none-under : (x : X) (xs : List X) → AllAbove x xs → sum_by (under x) xs ≡ 0
  none-under x [] a = refl
  none-under x (y ∷ ys) a =
      let first : under x y ≡ 0 = ap bit a.0 in
      let rest : sum_by (under x) ys ≡ 0 = none-under x ys a.1 in
      sum_by-cons (under x) y ys ∙ omega (arith, first, rest)

  lowest : (x y : X) (xs ys : List X) → AllAbove x xs → sum_by (under x) (x ∷ xs) ≡ sum_by (under x) (y ∷ ys) → lt y x ≡ false
  lowest x y xs ys a e =
      let own : under x x ≡ 0 = ap bit (itself x) in
      let rest : sum_by (under x) xs ≡ 0 = none-under x xs a in
      let left : sum_by (under x) (x ∷ xs) ≡ under x x + sum_by (under x) xs = sum_by-cons (under x) x xs in
      let right : sum_by (under x) (y ∷ ys) ≡ under x y + sum_by (under x) ys = sum_by-cons (under x) y ys in
      let none : under x y ≡ 0 = omega (arith, own, rest, left, right, e) in
      not-under (lt y x) none

  one-list : (xs ys : List X) → Rises xs → Rises ys → ((f : X → ℕ) → sum_by f xs ≡ sum_by f ys) → xs ≡ ys
  one-list [] [] r s e = refl
  one-list [] (y ∷ ys) r s e =
      let more : sum_by (λ (z : X). 1) (y ∷ ys) ≡ 1 + sum_by (λ z. 1) ys = sum_by-cons (λ z. 1) y ys in
      let none : sum_by (λ (z : X). 1) [] ≡ 0 = refl in
      let same = e (λ z. 1) in
      absurd (omega (arith, more, none, same))
  one-list (x ∷ xs) [] r s e =
      let more : sum_by (λ (z : X). 1) (x ∷ xs) ≡ 1 + sum_by (λ z. 1) xs = sum_by-cons (λ z. 1) x xs in
      let none : sum_by (λ (z : X). 1) [] ≡ 0 = refl in
      let same = e (λ z. 1) in
      absurd (omega (arith, more, none, same))
  one-list (x ∷ xs) (y ∷ ys) r s e =
      let first : x ≡ y = one x y (lowest y x ys xs s.0 (sym (e (under y)))) (lowest x y xs ys r.0 (e (under x))) in
      let rest : xs ≡ ys = one-list xs ys r.1 s.1 (λ f.
      let left : sum_by f (x ∷ xs) ≡ f x + sum_by f xs = sum_by-cons f x xs in
      let right : sum_by f (y ∷ ys) ≡ f y + sum_by f ys = sum_by-cons f y ys in
      let same : sum_by f (x ∷ xs) ≡ sum_by f (y ∷ ys) = e f in
      let heads : f x ≡ f y = ap f first in
      omega (arith, left, right, same, heads)) in
      ap (λ z. z ∷ xs) first ∙ ap (λ zs. y ∷ zs) rest

-- ---- the places of globals
abbrev Spot' : Type 0
Spot' = ℕ × ℕ × ℕ

abbrev spot_at : ℕ → ℕ → ℕ → Spot'
spot_at k l n = (k, l, n)

by-place-total : IsTotalOrder by_place
by-place-total = then_total (then_total (on_total (λ (p : Spot'). p.0) nat_cmp_total) (on_total (λ (p : Spot'). p.1) nat_cmp_total))
    (on_total (λ (p : Spot'). p.2) nat_cmp_total)

turned-gt : (o : Ordering) → is_gt (ordering_reverse o) ≡ is_lt o
turned-gt Less = refl
turned-gt Equal = refl
turned-gt Greater = refl

neither : (o : Ordering) → is_lt o ≡ false → is_gt o ≡ false → o ≡ Equal
neither Less l g = absurd (true≢false l)
neither Equal l g = refl
neither Greater l g = absurd (true≢false g)

abbrev lower : Spot' → Spot' → Bool
lower x y = is_lt (by_place x y)

lower-turned : (x y : Spot') → is_gt (by_place x y) ≡ lower y x
lower-turned x y =
    let o : IsTotalOrder by_place = by-place-total in
    ap is_gt (o.antisymm x y) ∙ turned-gt (by_place y x)

lower-itself : (x : Spot') → lower x x ≡ false
lower-itself x = ap is_lt (tied_itself by-place-total x)

lower-chain : (x y z : Spot') → lower x y ≡ false → lower y z ≡ false → lower x z ≡ false
lower-chain x y z a b =
    sym (lower-turned z x) ∙ upto by-place-total z y x (lower-turned z y ∙ b) (lower-turned y x ∙ a)

-- what comes first and what comes then are level, where both together are
first-level : (o p : Ordering) → ordering_then o p ≡ Equal → o ≡ Equal
first-level Less p e = e
first-level Equal p e = refl
first-level Greater p e = e

second-level : (o p : Ordering) → ordering_then o p ≡ Equal → p ≡ Equal
second-level Less p e = absurd (true≢false (ap is_lt e))
second-level Equal p e = e
second-level Greater p e = absurd (true≢false (ap is_gt e))

level : (m n : ℕ) → nat_cmp m n ≡ Equal → m ≡ n
level m n e = ranked m n Equal (sym e)

lower-one : (x y : Spot') → lower x y ≡ false → lower y x ≡ false → x ≡ y
lower-one x y a b =
    let e : by_place x y ≡ Equal = neither (by_place x y) a (lower-turned x y ∙ b) in
    let front = first-level (ordering_then (nat_cmp x.0 y.0) (nat_cmp x.1 y.1)) (nat_cmp x.2 y.2) e in
    let p : x.0 ≡ y.0 = level x.0 y.0 (first-level (nat_cmp x.0 y.0) (nat_cmp x.1 y.1) front) in
    let q : x.1 ≡ y.1 = level x.1 y.1 (second-level (nat_cmp x.0 y.0) (nat_cmp x.1 y.1) front) in
    let r : x.2 ≡ y.2 = level x.2 y.2 (second-level (ordering_then (nat_cmp x.0 y.0) (nat_cmp x.1 y.1)) (nat_cmp x.2 y.2) e) in
    ap (λ u. spot_at u x.1 x.2) p ∙ ap (λ u. spot_at y.0 u x.2) q ∙ ap (λ u. spot_at y.0 y.1 u) r

pub one-order : (gs : List Global) (order other : List ℕ) → IsInOrder gs order → IsInOrder gs other → order ≡ other
one-order gs order other a b =
    let same : a.places ≡ b.places = one-list lower lower-itself lower-chain lower-one a.places b.places
    (rises lower lower-itself lower-chain lower-one a.places a.sorted) (rises lower lower-itself lower-chain lower-one b.places b.sorted)
    (λ f. sum_by-IsPermutation f (placed 0 gs) a.places a.all ∙ sym (sum_by-IsPermutation f (placed 0 gs) b.places b.all)) in
    a.numbers ∙ ap (map (λ p. p.2)) same ∙ sym b.numbers
