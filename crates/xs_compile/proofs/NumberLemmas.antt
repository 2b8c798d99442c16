-- The numbers of those that pass a test, by names.
use Rattle.std.proofs.Common.{◌≡◌, ◌∙◌, ℕ, suc, ◌+◌, ◌<◌, ◌≤◌, inl, inr, ◌⊎◌, ap, refl, sym, arith, List, [], ◌∷◌, cond, filter, length, Bool, true, false, Option, Some, None}
use Rattle.std.proofs.lemmas.Bool.{cases_lt, le-ltb, lt-ltb}
use Rattle.std.specs.List.{position, position_or_len}
use Rattle.std.specs.Option.{option_or}
use Rattle.std.specs.Prelude.{◌&&◌, nat_lt, not, if◌then◌else◌}
use Rattle.xs_compile.specs.steps.Counting.{numbered_as}

-- the number of the first that passes a test, counted from a number
abbrev pub number_from : {X : Type 0} → (X → Bool) → ℕ → List X → Option ℕ
number_from test n [] = None
number_from test n (x ∷ xs) = if test x then Some n else number_from test (n + 1) xs

less-or-not : (k most : ℕ) → (k < most) ⊎ (most ≤ k) → nat_lt k most ≡ nat_lt (suc k) (suc most)
less-or-not k most (inl l) = lt-ltb k most l ∙ sym (lt-ltb (suc k) (suc most) (omega (arith, l)))
less-or-not k most (inr g) = le-ltb k most g ∙ sym (le-ltb (suc k) (suc most) (omega (arith, g)))

same-test : (k most : ℕ) → nat_lt k most ≡ nat_lt (suc k) (suc most)
same-test k most = less-or-not k most (cases_lt k most)

module _ {X : Type 0} (test : X → Bool) where
  abbrev counted_from : ℕ → ℕ → ℕ → Option ℕ
  counted_from n k most = cond (nat_lt k most) (Some (n + k)) None

  from-here : (n k most : ℕ) (b : Bool) → (if b then Some n else counted_from (n + 1) k most) ≡ counted_from n (cond (not b) (1 + k) 0) (suc most)
  from-here n k most true =
      let e : n + 0 ≡ n = omega arith in
      let l : nat_lt 0 (suc most) ≡ true = lt-ltb 0 (suc most) (omega arith) in
      sym (ap (λ (t : Bool). cond t (Some (n + 0)) None) l ∙ ap Some e)
  from-here n k most false =
      let e : n + 1 + k ≡ n + (1 + k) = omega arith in
      let s : 1 + k ≡ suc k = omega arith in
      ap (λ (i : ℕ). cond (nat_lt k most) (Some i) None) e
      ∙ ap (λ (t : Bool). cond t (Some (n + (1 + k))) None) (same-test k most ∙ ap (λ i. nat_lt i (suc most)) (sym s))

  number-is : (n : ℕ) (xs : List X) → number_from test n xs ≡ counted_from n (position_or_len test xs) (length xs)
  number-is n [] = refl
  number-is n (x ∷ xs) =
      ap (λ (o : Option ℕ). if test x then Some n else o) (number-is (n + 1) xs)
      ∙ from-here n (position_or_len test xs) (length xs) (test x)

  pub position_is : (xs : List X) → number_from test 0 xs ≡ position test xs
  position_is xs =
      let e : 0 + position_or_len test xs ≡ position_or_len test xs = omega arith in
      number-is 0 xs ∙ ap (λ (i : ℕ). cond (nat_lt (position_or_len test xs) (length xs)) (Some i) None) e

-- ---- one more, which has a number if it passes one test, and this name if it passes another
or-twice : (a r : Option ℕ) (n : ℕ) → option_or (option_or a (Some n)) r ≡ option_or a (Some n)
or-twice None r n = refl
or-twice (Some x) r n = refl

module _ {X : Type 0} (has_number is_named : X → Bool) where
  one-more : (x : X) (rest : List X) (old : Option ℕ) (next : ℕ) (g t : Bool)
      → option_or (numbered_as (g && t) old next) (number_from is_named (if g then next + 1 else next) rest)
      ≡ option_or old (if g then (if t then Some next else number_from is_named (next + 1) rest) else number_from is_named next rest)
  one-more x rest old next true true = or-twice old (number_from is_named (next + 1) rest) next
  one-more x rest old next true false = refl
  one-more x rest old next false t = refl

  under : (x : X) (rest : List X) (next : ℕ) (g : Bool)
      → number_from is_named next (cond g (x ∷ rest) rest)
      ≡ (if g then (if is_named x then Some next else number_from is_named (next + 1) rest) else number_from is_named next rest)
  under x rest next true = refl
  under x rest next false = refl

  pub number_more : (x : X) (xs : List X) (old new whole : Option ℕ) (next after : ℕ)
      → new ≡ numbered_as (has_number x && is_named x) old next → after ≡ (if has_number x then next + 1 else next)
      → option_or old (number_from is_named next (filter has_number (x ∷ xs))) ≡ whole
      → option_or new (number_from is_named after (filter has_number xs)) ≡ whole
  number_more x xs old new whole next after h a w =
      ap (λ (o : Option ℕ). option_or o (number_from is_named after (filter has_number xs))) h
      ∙ ap (λ (k : ℕ). option_or (numbered_as (has_number x && is_named x) old next) (number_from is_named k (filter has_number xs))) a
      ∙ one-more x (filter has_number xs) old next (has_number x) (is_named x)
      ∙ sym (ap (option_or old) (under x (filter has_number xs) next (has_number x)))
      ∙ w

pub or_none : (a : Option ℕ) → option_or a None ≡ a
or_none None = refl
or_none (Some x) = refl
