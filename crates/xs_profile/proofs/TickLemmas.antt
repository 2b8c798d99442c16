-- How many ticks are at a place, of one list after another, and of ticks at one place.
use Rattle.std.proofs.Common.{◌≡◌, ◌<◌, ◌≤◌, ◌+◌, ◌==◌, ℕ, zero, suc, Bool, true, false, cond, List, [], ◌∷◌, ◌++◌, filter, length, get_or, set}
use Rattle.std.proofs.Common.{◌⊎◌, inl, inr, refl, ap, arith, get_or-set_same, get_or-set_other}
use Rattle.std.proofs.lemmas.Bool.{cases_eq, cond-true, cond-false, eq-eqb, ne_eqb}
use Rattle.xs_trace.specs.Mark.{ticks}
use Rattle.xs_trace.specs.declared.item.Site.{Site}
use Rattle.xs_profile.specs.Counts.{is_site, ticks_at}
use Rattle.xs_profile.specs.Sites.{sites_of}

-- a place more, before two lists
one-more : (b : Bool) (x : Site) (all first : List Site) (rest : ℕ) → length all ≡ length first + rest →
    length (cond b (x ∷ all) all) ≡ length (cond b (x ∷ first) first) + rest
one-more true x all first rest e = omega (arith, e)
one-more false x all first rest e = e

pub ticks-joined : (s : Site) (xs ys : List Site) → ticks_at (xs ++ ys) s ≡ ticks_at xs s + ticks_at ys s
ticks-joined s [] ys = omega arith
ticks-joined s (x ∷ xs) ys = one-more (is_site s x) x (filter (is_site s) (xs ++ ys)) (filter (is_site s) xs) (ticks_at ys s) (ticks-joined s xs ys)

-- the ticks of a list with one place more
pub ticks-more : (s x : Site) (xs : List Site) → ticks_at (x ∷ xs) s ≡ cond (is_site s x) 1 0 + ticks_at xs s
ticks-more s x xs = by-test (is_site s x) (filter (is_site s) xs)
  where
    by-test : (b : Bool) (u : List Site) → length (cond b (x ∷ u) u) ≡ cond b 1 0 + length u
    by-test true u = omega arith
    by-test false u = omega arith

-- those of ticks at one place
pub run-ticks : (s p : Site) (n : ℕ) → ticks_at (sites_of {H = ℕ} (ticks p n [])) s ≡ cond (is_site s p) n 0
run-ticks s p zero = none (is_site s p)
  where
    none : (b : Bool) → ◌≡◌ {A = ℕ} 0 (cond b 0 0)
    none true = refl
    none false = refl
run-ticks s p (suc n) = by-test (is_site s p) (filter (is_site s) (sites_of {H = ℕ} (ticks p n []))) (run-ticks s p n)
  where
    by-test : (b : Bool) (u : List Site) → length u ≡ cond b n 0 → length (cond b (p ∷ u) u) ≡ cond b (suc n) 0
    by-test true u e = omega (arith, e)
    by-test false u e = e

-- three lists in turn
pub added-three : (s : Site) (xs ys zs : List Site) (old one two all : ℕ) → one ≡ old + ticks_at xs s → two ≡ one + ticks_at ys s →
    all ≡ two + ticks_at zs s → all ≡ old + ticks_at (xs ++ (ys ++ zs)) s
added-three s xs ys zs old one two all a b c =
    let k = ticks-joined s xs (ys ++ zs) in
    let l = ticks-joined s ys zs in
    omega (arith, a, b, c, k, l)

-- a list with a 0 at its end reads as before
pub read-past : (xs : List ℕ) (n : ℕ) → get_or (xs ++ 0 ∷ []) n 0 ≡ get_or xs n 0
read-past [] zero = refl
read-past [] (suc n) = refl
read-past (x ∷ xs) zero = refl
read-past (x ∷ xs) (suc n) = read-past xs n

-- a list with another number at a place
pub read-set : (xs : List ℕ) (i n more y : ℕ) → i < length xs → y ≡ get_or xs i 0 + more → get_or (set xs i y) n 0 ≡ get_or xs n 0 + cond (n == i) more 0
read-set xs i n more y h e = by (cases_eq n i)
  where
    by : ((n ≡ i) ⊎ (n ≡ i → ⊥)) → get_or (set xs i y) n 0 ≡ get_or xs n 0 + cond (n == i) more 0
    by (inl same) =
        let a : get_or (set xs i y) n 0 ≡ get_or (set xs i y) i 0 = ap (λ (k : ℕ). get_or (set xs i y) k 0) same in
        let b : get_or (set xs i y) i 0 ≡ y = get_or-set_same xs i y 0 h in
        let c : get_or xs n 0 ≡ get_or xs i 0 = ap (λ (k : ℕ). get_or xs k 0) same in
        let d : cond (n == i) more 0 ≡ more = cond-true {A = ℕ} (n == i) more 0 (eq-eqb n i same) in
        omega (arith, a, b, c, d, e)
    by (inr other) =
        let a : get_or (set xs i y) n 0 ≡ get_or xs n 0 = get_or-set_other xs i n y 0 other in
        let d : cond (n == i) more 0 ≡ 0 = cond-false {A = ℕ} (n == i) more 0 (ne_eqb n i other) in
        omega (arith, a, d)

-- nothing is behind the end of a list
pub read-none : (xs : List ℕ) (n : ℕ) → length xs ≤ n → get_or xs n 0 ≡ 0
read-none [] n h = refl
read-none (x ∷ xs) zero h = absurd (omega (arith, h))
read-none (x ∷ xs) (suc n) h = read-none xs n (omega (arith, h))

-- no ticks at a place
pub none-run : (s p : Site) (n t : ℕ) → n ≡ 0 → t ≡ t + ticks_at (sites_of {H = ℕ} (ticks p n [])) s
none-run s p n t e =
    let k : ticks_at (sites_of {H = ℕ} (ticks p n [])) s ≡ 0 = ap (λ (m : ℕ). ticks_at (sites_of {H = ℕ} (ticks p m [])) s) e in
    omega (arith, k)

pub some-run : (s p : Site) (n t u : ℕ) → u ≡ t + cond (is_site s p) n 0 → u ≡ t + ticks_at (sites_of {H = ℕ} (ticks p n [])) s
some-run s p n t u e = let k = run-ticks s p n in omega (arith, e, k)

-- a list of one place
pub one-tick : (s x : Site) → ticks_at (x ∷ []) s ≡ cond (is_site s x) 1 0
one-tick s x = let k = ticks-more s x [] in omega (arith, k)
