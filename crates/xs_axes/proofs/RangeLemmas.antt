-- Lists of the places that pass a test.
use Rattle.std.proofs.Common.{◌≡◌, ℕ, zero, suc, ◌+◌, ◌-◌, ◌<◌, ◌≤◌, Bool, true, false, List, [], ◌∷◌, ◌++◌, filter, length, reverse, refl, ◌∙◌, ap, arith}
use Rattle.std.proofs.lemmas.List.{append-nil, reverse-append}
use Rattle.std.proofs.lemmas.List.Elements.{filter-append}
use Rattle.std.specs.List.{range_with_len}
use Rattle.xs_tree.specs.Record.{Record, places}
use Rattle.xs_axes.specs.Walks.{passing_before, passing_between}

range-split : (a m n : ℕ) → range_with_len a (m + n) ≡ range_with_len a m ++ range_with_len (a + m) n
range-split a zero n =
    let e : zero + n ≡ n = omega arith in
    let f : a + zero ≡ a = omega arith in
    rw (e, f) refl
range-split a (suc m) n =
    let e : suc m + n ≡ suc (m + n) = omega arith in
    let f : a + suc m ≡ a + 1 + m = omega arith in
    rw (e, f) (ap (λ xs. a ∷ xs) (range-split (a + 1) m n))

range-step : (a b : ℕ) → a < b → range_with_len a (b - a) ≡ a ∷ range_with_len (a + 1) (b - (a + 1))
range-step a b h =
    let e : b - a ≡ suc (b - (a + 1)) = omega arith in
    rw e refl

none_pass : (test : ℕ → Bool) (a n : ℕ) → ((j : ℕ) → a ≤ j → j < a + n → test j ≡ false) → filter test (range_with_len a n) ≡ []
none_pass test a zero h = refl
none_pass test a (suc n) h =
    rw (h a (omega arith) (omega arith)) (none_pass test (a + 1) n (λ j x y. h j (omega arith) (omega arith)))

same_pass : (test other : ℕ → Bool) (a n : ℕ) → ((j : ℕ) → a ≤ j → j < a + n → test j ≡ other j)
    → filter test (range_with_len a n) ≡ filter other (range_with_len a n)
same_pass test other a zero h = refl
same_pass test other a (suc n) h =
    rw (h a (omega arith) (omega arith), same_pass test other (a + 1) n (λ j x y. h j (omega arith) (omega arith))) refl

-- ---- from one place to another

pub between-true : (test : ℕ → Bool) (a b : ℕ) → a < b → test a ≡ true → passing_between test a b ≡ a ∷ passing_between test (a + 1) b
between-true test a b h e = rw (range-step a b h, e) refl

pub between-none : (test : ℕ → Bool) (a b : ℕ) → ((j : ℕ) → a ≤ j → j < b → test j ≡ false) → passing_between test a b ≡ []
between-none test a b h = none_pass test a (b - a) (λ j x y. h j x (omega (arith, x, y)))

pub between-same : (test other : ℕ → Bool) (a b : ℕ) → ((j : ℕ) → a ≤ j → j < b → test j ≡ other j) → passing_between test a b ≡ passing_between other a b
between-same test other a b h = same_pass test other a (b - a) (λ j x y. h j x (omega (arith, x, y)))

pub between-split : (test : ℕ → Bool) (a m b : ℕ) → a ≤ m → m ≤ b → passing_between test a b ≡ passing_between test a m ++ passing_between test m b
between-split test a m b h k =
    let e : b - a ≡ (m - a) + (b - m) = omega arith in
    let f : a + (m - a) ≡ m = omega arith in
    rw (e, range-split a (m - a) (b - m), f) (filter-append test (range_with_len a (m - a)) (range_with_len m (b - m)))

-- what does not pass before m may be left out
pub between-skip : (test : ℕ → Bool) (a m b : ℕ) → a ≤ m → m ≤ b → ((j : ℕ) → a ≤ j → j < m → test j ≡ false)
    → passing_between test a b ≡ passing_between test m b
between-skip test a m b h k none =
    between-split test a m b h k ∙ ap (λ xs. xs ++ passing_between test m b) (between-none test a m none)

-- and so may what does not pass from m on
pub between-cut : (test : ℕ → Bool) (a m b : ℕ) → a ≤ m → m ≤ b → ((j : ℕ) → m ≤ j → j < b → test j ≡ false)
    → passing_between test a b ≡ passing_between test a m
between-cut test a m b h k none =
    between-split test a m b h k ∙ ap (λ xs. passing_between test a m ++ xs) (between-none test m b none) ∙ append-nil (passing_between test a m)

pub between-false : (test : ℕ → Bool) (a b : ℕ) → a < b → test a ≡ false → passing_between test a b ≡ passing_between test (a + 1) b
between-false test a b h e =
    between-skip test a (a + 1) b (omega arith) (omega (arith, h)) (λ j x y. let same : j ≡ a = omega (arith, x, y) in rw same e)

pub places-between : (test : ℕ → Bool) (rs : List Record) → filter test (places rs) ≡ passing_between test 0 (length rs)
places-between test rs = let e : length rs - 0 ≡ length rs = omega arith in rw e refl

-- a test that passes only from a on and before b, and is another test there
pub from-to : (test other : ℕ → Bool) (rs : List Record) (a b : ℕ) → a ≤ b → b ≤ length rs → ((j : ℕ) → j < a → test j ≡ false)
    → ((j : ℕ) → a ≤ j → j < b → test j ≡ other j) → ((j : ℕ) → b ≤ j → j < length rs → test j ≡ false) → filter test (places rs) ≡ passing_between other a b
from-to test other rs a b h k before same after =
    places-between test rs
    ∙ between-skip test 0 a (length rs) (omega arith) (omega (arith, h, k)) (λ j x y. before j y)
    ∙ between-cut test a b (length rs) h k after
    ∙ between-same test other a b same

-- a test that one place alone passes
pub one-passes : (test : ℕ → Bool) (rs : List Record) (n : ℕ) → n < length rs → test n ≡ true → ((j : ℕ) → (j ≡ n → ⊥) → test j ≡ false)
    → filter test (places rs) ≡ n ∷ []
one-passes test rs n h passes others =
    from-to test test rs n (n + 1) (omega arith) (omega arith) (λ j x. others j (λ e. omega (arith, e, x))) (λ j x y. refl)
    (λ j x y. others j (λ e. omega (arith, e, x)))
    ∙ between-true test n (n + 1) (omega arith) passes
    ∙ ap (λ xs. n ∷ xs) (between-none test (n + 1) (n + 1) (λ j x y. absurd (omega (arith, x, y))))

-- ---- from a place downwards

pub before-split : (test : ℕ → Bool) (a b : ℕ) → a ≤ b → passing_before test b ≡ reverse (passing_between test a b) ++ passing_before test a
before-split test a b h =
    let e : b ≡ a + (b - a) = omega arith in
    let f : 0 + a ≡ a = omega arith in
    let g : range_with_len 0 b ≡ range_with_len 0 a ++ range_with_len a (b - a) =
    ap (λ k. range_with_len 0 k) e ∙ range-split 0 a (b - a) ∙ ap (λ k. range_with_len 0 a ++ range_with_len k (b - a)) f in
    ap (λ xs. reverse (filter test xs)) g
    ∙ ap reverse (filter-append test (range_with_len 0 a) (range_with_len a (b - a)))
    ∙ reverse-append (filter test (range_with_len 0 a)) (filter test (range_with_len a (b - a)))

-- what does not pass from a on may be left out
pub before-skip : (test : ℕ → Bool) (a b : ℕ) → a ≤ b → ((j : ℕ) → a ≤ j → j < b → test j ≡ false) → passing_before test b ≡ passing_before test a
before-skip test a b h none =
    before-split test a b h ∙ ap (λ xs. reverse xs ++ passing_before test a) (between-none test a b none)

pub before-none : (test : ℕ → Bool) (b : ℕ) → ((j : ℕ) → j < b → test j ≡ false) → passing_before test b ≡ []
before-none test b none = before-skip test 0 b (omega arith) (λ j x y. none j y)

pub before-same : (test other : ℕ → Bool) (b : ℕ) → ((j : ℕ) → j < b → test j ≡ other j) → passing_before test b ≡ passing_before other b
before-same test other b h = ap reverse (same_pass test other 0 b (λ j x y. h j (omega (arith, y))))

-- the place n passes, and none from there to b
pub before-true : (test : ℕ → Bool) (n b : ℕ) → n < b → test n ≡ true → ((j : ℕ) → n < j → j < b → test j ≡ false)
    → passing_before test b ≡ n ∷ passing_before test n
before-true test n b h passes none =
    let one : passing_between test n b ≡ n ∷ [] =
    between-true test n b h passes ∙ ap (λ xs. n ∷ xs) (between-none test (n + 1) b (λ j x y. none j (omega arith) y)) in
    before-split test n b (omega (arith, h)) ∙ ap (λ xs. reverse xs ++ passing_before test n) one

-- a test that passes only before b, and is another test there
pub down-to : (test other : ℕ → Bool) (rs : List Record) (b : ℕ) → b ≤ length rs → ((j : ℕ) → j < b → test j ≡ other j)
    → ((j : ℕ) → b ≤ j → j < length rs → test j ≡ false) → reverse (filter test (places rs)) ≡ passing_before other b
down-to test other rs b h same after =
    before-skip test b (length rs) h after ∙ before-same test other b same
