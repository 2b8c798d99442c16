-- No more bindings are visible at a child than at its parent, and those beside it.
use Rattle.std.proofs.Common.{◌≡◌, ◌∙◌, ◌<◌, ◌≤◌, ◌+◌, ◌⊎◌, ℕ, zero, suc, ap, arith, refl, Bool, true, false, List, length, Some, inl, inr, filter}
use Rattle.std.proofs.lemmas.Bool.{and_from, and_parts, false_from_ne_true, false≢true}
use Rattle.std.specs.List.{range_with_len}
use Rattle.std.specs.Prelude.{◌&&◌}
use Rattle.xs_compile.proofs.OpenLemmas.{one_if, passing-more, visible-before}
use Rattle.xs_compile.proofs.ReachLemmas.{parent-before, place-is, reaches-inner, reaches-of, reaches-to}
use Rattle.xs_compile.specs.Slots.{is_visible, visible_at}
use Rattle.xs_structure.specs.Bindings.{is_local, reaches}
use Rattle.xs_tree.proofs.WalkLemmas.{le_or_gt}
use Rattle.xs_tree.specs.Record.{Record, at, is_place}
use Rattle.xs_tree.specs.Shape.{IsTree}

-- ---- how many of the first so many places pass a test
pub passing-next : (p : ℕ → Bool) (n : ℕ) (b : Bool) → p n ≡ b
    → length (filter p (range_with_len 0 (suc n))) ≡ length (filter p (range_with_len 0 n)) + one_if b
passing-next p n b e =
    let n_is : suc n ≡ n + 1 = omega arith in
    ap (λ m. length (filter p (range_with_len 0 m))) n_is ∙ passing-more p n b e

at-most-one : (b : Bool) → one_if b ≤ 1
at-most-one true = omega arith
at-most-one false = omega arith

-- no more of fewer places
pub passing-fewer-places : (p : ℕ → Bool) (a b : ℕ) → a ≤ b → length (filter p (range_with_len 0 a)) ≤ length (filter p (range_with_len 0 b))
passing-fewer-places p a zero le =
    let none : a ≡ 0 = omega (arith, le) in
    let same = ap (λ m. length (filter p (range_with_len 0 m))) none in
    omega (arith, same)
passing-fewer-places p a (suc b) le = elim (le_or_gt (suc b) a) [
  | inl here ↦ (let all : a ≡ suc b = omega (arith, le, here) in
      let same = ap (λ m. length (filter p (range_with_len 0 m))) all in
      omega (arith, same))
  | inr before ↦ (let front : a ≤ b = omega (arith, before) in
      let rest = passing-fewer-places p a b front in
      let more = passing-next p b (p b) refl in
      omega (arith, rest, more))
]

-- what passes a test passes one of two others
pub passing-either : (p q r : ℕ → Bool) (n : ℕ) → ((k : ℕ) → k < n → p k ≡ true → (q k ≡ true) ⊎ (r k ≡ true))
    → length (filter p (range_with_len 0 n)) ≤ length (filter q (range_with_len 0 n)) + length (filter r (range_with_len 0 n))
passing-either p q r zero h = omega arith
passing-either p q r (suc n) h =
    let rest = passing-either p q r n (λ k lt. h k (omega (arith, lt))) in
    let here : one_if (p n) ≤ one_if (q n) + one_if (r n) = one (p n) (q n) (r n) (h n (omega arith)) in
    let a = passing-next p n (p n) refl in
    let b = passing-next q n (q n) refl in
    let c = passing-next r n (r n) refl in
    omega (arith, rest, here, a, b, c)
  where
    one : (a b c : Bool) → (a ≡ true → (b ≡ true) ⊎ (c ≡ true)) → one_if a ≤ one_if b + one_if c
    one true true c h = omega arith
    one true false true h = omega arith
    one true false false h = elim (h refl) [
      | inl e ↦ absurd (false≢true e)
      | inr e ↦ absurd (false≢true e)
    ]
    one false b c h = omega arith

pub passing-none : (p : ℕ → Bool) (n : ℕ) → ((k : ℕ) → k < n → p k ≡ false) → length (filter p (range_with_len 0 n)) ≡ 0
passing-none p zero h = refl
passing-none p (suc n) h =
    let more = passing-next p n false (h n (omega arith)) in
    let rest = passing-none p n (λ k lt. h k (omega (arith, lt))) in
    omega (arith, more, rest)

-- those that come behind a place are no more than the places behind it
pub passing-behind : (p : ℕ → Bool) (n a : ℕ) → ((k : ℕ) → k < n → p k ≡ false) → n ≤ a → length (filter p (range_with_len 0 a)) + n ≤ a
passing-behind p n zero h le = omega (arith, le)
passing-behind p n (suc a) h le = elim (le_or_gt n a) [
  | inl on ↦ (let rest = passing-behind p n a h on in
      let more = passing-next p a (p a) refl in
      let one = at-most-one (p a) in
      omega (arith, rest, more, one))
  | inr early ↦ (let none = passing-none p (suc a) (λ k lt. h k (omega (arith, lt, early))) in
      omega (arith, none, le))
]

-- ---- what is visible at a child
-- a local binding that is a child of a node
abbrev pub is_own : List Record → (inside binding : ℕ) → Bool
is_own rs n b = is_local rs b && is_place n (at rs b).parent

module _ (rs : List Record) (tree : IsTree rs) (n k : ℕ) (inside : k < length rs) (parent : (at rs k).parent ≡ Some n) where
  visible-from : (b : ℕ) → is_visible rs k b ≡ true → (is_visible rs n b ≡ true) ⊎ (is_own rs n b ≡ true)
  visible-from b h =
      let parts = and_parts (is_local rs b) (reaches rs b k) h in
      let before = parent-before rs tree k n inside parent in
      elim (reaches-inner rs tree b k n inside parent (reaches-of rs tree b k inside parts.1)) [
        | inl own ↦ inr (and_from (is_local rs b) (is_place n (at rs b).parent) parts.0 (place-is n (at rs b).parent own))
        | inr outer ↦ inl (and_from (is_local rs b) (reaches rs b n) parts.0 (reaches-to rs tree b n (omega (arith, before, inside)) outer))
      ]

  pub visible-few : length (visible_at rs k) ≤ length (visible_at rs n) + length (filter (is_own rs n) (range_with_len 0 k))
  visible-few =
      let le : k ≤ length rs = omega (arith, inside) in
      let here = ap length (visible-before rs k le) in
      let split = passing-either (is_visible rs k) (is_visible rs n) (is_own rs n) k (λ b lt. visible-from b) in
      let front = passing-fewer-places (is_visible rs n) k (length rs) le in
      omega (arith, here, split, front)

  -- where no binding stands before it
  pub visible-same : ((b : ℕ) → b < k → is_own rs n b ≡ true → ⊥) → length (visible_at rs k) ≤ length (visible_at rs n)
  visible-same h =
      let none = passing-none (is_own rs n) k (λ b lt. false_from_ne_true (is_own rs n b) (h b lt)) in
      omega (arith, visible-few, none)
