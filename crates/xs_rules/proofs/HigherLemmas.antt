-- The highest of things of two sorts, from the highest of each sort.
use Rattle.std.proofs.Common.{◌≡◌, ◌∙◌, ℕ, ◌==◌, ◌&&◌, ◌||◌, not, nat_lt, ap, refl, sym, arith}
use Rattle.std.proofs.Common.{Bool, true, false, cond, List, [], ◌∷◌, filter, Option, None, Some}
use Rattle.std.proofs.lemmas.Bool.{true≢false}
use Rattle.std.proofs.lemmas.Int.{ints}
use Rattle.std.specs.Prelude.{ℤ, int_lt}
use Rattle.xs_pattern_spec.specs.declared.ranks.Rank.{Rank}
use Rattle.xs_rules.specs.Ranks.{highest, outranks}
use Rattle.xs_rules.specs.steps.Strips.{higher}

-- ---- ranks are in order

int-over : (a b c : ℤ) → int_lt b a ≡ true → int_lt c b ≡ true → int_lt c a ≡ true
int-over a b c e f = grind (arith, ints)

int-not : (a b c : ℤ) → int_lt b a ≡ false → int_lt c b ≡ false → int_lt c a ≡ false
int-not a b c e f = grind (arith, ints)

first-over : (p q u : ℕ) (x y z : Bool) → (x ≡ true → y ≡ true → z ≡ true) → (nat_lt q p || (q == p && x)) ≡ true
    → (nat_lt u q || (u == q && y)) ≡ true → (nat_lt u p || (u == p && z)) ≡ true
first-over p q u x y z f a b = grind (arith, f)

first-not : (p q u : ℕ) (x y z : Bool) → (x ≡ false → y ≡ false → z ≡ false) → (nat_lt q p || (q == p && x)) ≡ false
    → (nat_lt u q || (u == q && y)) ≡ false → (nat_lt u p || (u == p && z)) ≡ false
first-not p q u x y z f a b = grind (arith, f)

pub over : (r s t : Rank) → outranks r s ≡ true → outranks s t ≡ true → outranks r t ≡ true
over r s t a b =
    first-over r.precedence s.precedence t.precedence (int_lt s.priority r.priority) (int_lt t.priority s.priority) (int_lt t.priority r.priority)
    (int-over r.priority s.priority t.priority) a b

pub not-over : (r s t : Rank) → outranks r s ≡ false → outranks s t ≡ false → outranks r t ≡ false
not-over r s t a b =
    first-not r.precedence s.precedence t.precedence (int_lt s.priority r.priority) (int_lt t.priority s.priority) (int_lt t.priority r.priority)
    (int-not r.priority s.priority t.priority) a b

-- two ranks of which one is above the other
abbrev pub IsApart : Rank → Rank → Type 0
IsApart r s = outranks r s ≡ not (outranks s r)

first-apart : (p q : ℕ) → (nat_lt q p || (q == p && false)) ≡ not (nat_lt p q || (p == q && true))
first-apart p q = grind arith

pub apart-by : (r s : Rank) → int_lt r.priority s.priority ≡ true → int_lt s.priority r.priority ≡ false → IsApart r s
apart-by r s a b =
    ap (λ x. nat_lt s.precedence r.precedence || (s.precedence == r.precedence && x)) b
    ∙ first-apart r.precedence s.precedence
    ∙ sym (ap (λ x. not (nat_lt r.precedence s.precedence || (r.precedence == s.precedence && x))) a)

-- ---- the highest of two sorts of things

module _ {A : Type 0} (rank : A → Rank) where
  higher-assoc : (a b c : Option A) → higher rank a (higher rank b c) ≡ higher rank (higher rank a b) c
  higher-assoc None b c = refl
  higher-assoc (Some x) None c = refl
  higher-assoc (Some x) (Some y) None = by_rank (outranks (rank x) (rank y)) refl
    where
      by_rank : (b : Bool) → outranks (rank x) (rank y) ≡ b
          → higher rank (Some x) (higher rank (Some y) None) ≡ higher rank (higher rank (Some x) (Some y)) None
      by_rank true e = rw e refl
      by_rank false e = rw e refl
  higher-assoc (Some x) (Some y) (Some z) =
      by_ranks (outranks (rank x) (rank y)) (outranks (rank y) (rank z)) (outranks (rank x) (rank z)) refl refl refl
    where
      by_ranks : (xy yz xz : Bool) → outranks (rank x) (rank y) ≡ xy → outranks (rank y) (rank z) ≡ yz → outranks (rank x) (rank z) ≡ xz
          → higher rank (Some x) (higher rank (Some y) (Some z)) ≡ higher rank (higher rank (Some x) (Some y)) (Some z)
      by_ranks true true true e f g = rw (f, e, g) refl
      by_ranks true true false e f g = absurd (true≢false (sym (over (rank x) (rank y) (rank z) e f) ∙ g))
      by_ranks true false xz e f g = rw (f, e) refl
      by_ranks false true xz e f g = rw (f, e, f) refl
      by_ranks false false true e f g = absurd (true≢false (sym g ∙ not-over (rank x) (rank y) (rank z) e f))
      by_ranks false false false e f g = rw (f, e, f, g) refl

  higher-swap : (x y : A) → IsApart (rank y) (rank x) → higher rank (Some x) (Some y) ≡ higher rank (Some y) (Some x)
  higher-swap x y a = by_rank (outranks (rank x) (rank y)) refl
    where
      by_rank : (b : Bool) → outranks (rank x) (rank y) ≡ b → higher rank (Some x) (Some y) ≡ higher rank (Some y) (Some x)
      by_rank true e = let f : outranks (rank y) (rank x) ≡ false = a ∙ ap not e in rw (e, f) refl
      by_rank false e = let f : outranks (rank y) (rank x) ≡ true = a ∙ ap not e in rw (e, f) refl

  swap-all : (x : A) (p : A → Bool) → ((y : A) → p y ≡ true → IsApart (rank y) (rank x)) → (ys : List A)
      → higher rank (Some x) (highest rank (filter p ys)) ≡ higher rank (highest rank (filter p ys)) (Some x)
  swap-all x p apart [] = refl
  swap-all x p apart (y ∷ ys) = by_test (p y) refl (swap-all x p apart ys)
    where
      h : Option A
      h = highest rank (filter p ys)

      by_test : (b : Bool) → p y ≡ b → higher rank (Some x) h ≡ higher rank h (Some x)
          → higher rank (Some x) (highest rank (cond b (y ∷ filter p ys) (filter p ys)))
          ≡ higher rank (highest rank (cond b (y ∷ filter p ys) (filter p ys))) (Some x)
      by_test false e same = same
      by_test true e same =
          higher-assoc (Some x) (Some y) h
          ∙ ap (λ o. higher rank o h) (higher-swap x y (apart y e))
          ∙ sym (higher-assoc (Some y) (Some x) h)
          ∙ ap (higher rank (Some y)) same
          ∙ higher-assoc (Some y) h (Some x)

  pub highest-apart : (p q : A → Bool) → ((x y : A) → p x ≡ true → q y ≡ true → IsApart (rank x) (rank y)) → (xs : List A)
      → highest rank (filter (λ x. p x || q x) xs) ≡ higher rank (highest rank (filter p xs)) (highest rank (filter q xs))
  highest-apart p q apart [] = refl
  highest-apart p q apart (x ∷ xs) = by_tests (p x) (q x) refl refl (highest-apart p q apart xs)
    where
      either : A → Bool
      either x = p x || q x

      hp : Option A
      hp = highest rank (filter p xs)

      hq : Option A
      hq = highest rank (filter q xs)

      unlike : (b : Bool) → b ≡ not b → ⊥
      unlike true e = true≢false e
      unlike false e = true≢false (sym e)

      by_tests : (b c : Bool) → p x ≡ b → q x ≡ c → highest rank (filter either xs) ≡ higher rank hp hq
          → highest rank (cond (b || c) (x ∷ filter either xs) (filter either xs))
          ≡ higher rank (highest rank (cond b (x ∷ filter p xs) (filter p xs))) (highest rank (cond c (x ∷ filter q xs) (filter q xs)))
      by_tests true true e f same = absurd (unlike (outranks (rank x) (rank x)) (apart x x e f))
      by_tests true false e f same = ap (higher rank (Some x)) same ∙ higher-assoc (Some x) hp hq
      by_tests false true e f same =
          ap (higher rank (Some x)) same
          ∙ higher-assoc (Some x) hp hq
          ∙ ap (λ o. higher rank o hq) (swap-all x p (λ y g. apart y x g f) xs)
          ∙ sym (higher-assoc hp (Some x) hq)
      by_tests false false e f same = same
