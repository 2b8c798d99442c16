-- Lists of places: those below a bound that pass a test.
use Rattle.std.proofs.Common.{◌≡◌, ℕ, zero, suc, ◌+◌, ◌<◌, ◌≤◌, ◌==◌, ◌++◌, Bool, true, false, cond, List, [], ◌∷◌, filter, length, reverse, slice_get}
use Rattle.std.proofs.Common.{Option, Some, None, refl, sym, ap, subst, ◌∙◌, arith, ◌⊎◌, inl, inr}
use Rattle.std.proofs.lemmas.Bool.{cases_eq, eq-eqb, le-ltb, lt-ltb, ne_eqb}
use Rattle.std.proofs.lemmas.List.{length-append, reverse-append}
use Rattle.std.specs.List.{range_with_len}
use Rattle.std.specs.Option.{option_map_or}
use Rattle.std.specs.Prelude.{nat_lt, ⊤}
use Rattle.xs_tree.proofs.PlaceLemmas.{range-more}
use Rattle.xs_rules.specs.Rules.{Candidate}
use Rattle.xs_rules.specs.steps.Index.{later, passed, passes_at, places_of, with_place}

-- those below a bound, the last one first
abbrev pub down : (ℕ → Bool) → ℕ → List ℕ
down t zero = []
down t (suc n) = cond (t n) (n ∷ down t n) (down t n)

-- ---- in their order

filter-push : (t : ℕ → Bool) (xs : List ℕ) (n : ℕ) → filter t (xs ++ n ∷ []) ≡ with_place (t n) n (filter t xs)
filter-push t [] n = by_test (t n)
  where
    by_test : (b : Bool) → cond b (n ∷ []) [] ≡ with_place b n []
    by_test true = refl
    by_test false = refl
filter-push t (x ∷ xs) n = by_tests (t x) (t n) (filter-push t xs n)
  where
    by_tests : (a b : Bool) → filter t (xs ++ n ∷ []) ≡ with_place b n (filter t xs)
        → cond a (x ∷ filter t (xs ++ n ∷ [])) (filter t (xs ++ n ∷ [])) ≡ with_place b n (cond a (x ∷ filter t xs) (filter t xs))
    by_tests true true e = ap (λ l. x ∷ l) e
    by_tests true false e = ap (λ l. x ∷ l) e
    by_tests false true e = e
    by_tests false false e = e

more : (t : ℕ → Bool) (n : ℕ) → filter t (range_with_len 0 (n + 1)) ≡ with_place (t n) n (filter t (range_with_len 0 n))
more t n = ap (filter t) (range-more n) ∙ filter-push t (range_with_len 0 n) n

more-suc : (t : ℕ → Bool) (n : ℕ) → filter t (range_with_len 0 (suc n)) ≡ with_place (t n) n (filter t (range_with_len 0 n))
more-suc t n = let e : suc n ≡ n + 1 = omega arith in ap (λ k. filter t (range_with_len 0 k)) e ∙ more t n

-- another test that is the same below
same-below : (t u : ℕ → Bool) (n : ℕ) → ((m : ℕ) → m < n → t m ≡ u m) → filter t (range_with_len 0 n) ≡ filter u (range_with_len 0 n)
same-below t u zero e = refl
same-below t u (suc n) e =
    more-suc t n
    ∙ ap (λ b. with_place b n (filter t (range_with_len 0 n))) (e n (omega arith))
    ∙ ap (λ l. with_place (u n) n l) (same-below t u n (λ m lt. e m (omega (arith, lt))))
    ∙ sym (more-suc u n)

turned : (b : Bool) (n : ℕ) (xs ys : List ℕ) → reverse xs ≡ ys → reverse (with_place b n xs) ≡ cond b (n ∷ ys) ys
turned true n xs ys e = reverse-append xs (n ∷ []) ∙ ap (λ l. n ∷ l) e
turned false n xs ys e = e

pub down-is : (t : ℕ → Bool) (n : ℕ) → reverse (filter t (range_with_len 0 n)) ≡ down t n
down-is t zero = refl
down-is t (suc n) = ap reverse (more-suc t n) ∙ turned (t n) n (filter t (range_with_len 0 n)) (down t n) (down-is t n)

-- ---- the places of rules

at-before : (cs : List Candidate) (c : Candidate) (i : ℕ) → i < length cs → slice_get (cs ++ c ∷ []) i ≡ slice_get cs i
at-before [] c i lt = absurd (omega (arith, lt))
at-before (d ∷ cs) c zero lt = refl
at-before (d ∷ cs) c (suc i) lt = at-before cs c i (omega (arith, lt))

at-last : (cs : List Candidate) (c : Candidate) → slice_get (cs ++ c ∷ []) (length cs) ≡ Some c
at-last [] c = refl
at-last (d ∷ cs) c = at-last cs c

-- one rule more
pub places-push : (test : Candidate → Bool) (cs : List Candidate) (c : Candidate)
    → places_of test (cs ++ c ∷ []) ≡ with_place (test c) (length cs) (places_of test cs)
places-push test cs c =
    ap (λ n. filter (passes_at test (cs ++ c ∷ [])) (range_with_len 0 n)) (length-append cs (c ∷ []))
    ∙ more (passes_at test (cs ++ c ∷ [])) (length cs)
    ∙ ap (λ o. with_place (option_map_or test o false) (length cs) (filter (passes_at test (cs ++ c ∷ [])) (range_with_len 0 (length cs)))) (at-last cs c)
    ∙ ap (λ l. with_place (test c) (length cs) l)
    (same-below (passes_at test (cs ++ c ∷ [])) (passes_at test cs) (length cs) (λ m lt. ap (λ o. option_map_or test o false) (at-before cs c m lt)))

-- no rule
none-below : (t : ℕ → Bool) (n : ℕ) → ((m : ℕ) → t m ≡ false) → filter t (range_with_len 0 n) ≡ []
none-below t zero f = refl
none-below t (suc n) f =
    more-suc t n ∙ ap (λ b. with_place b n (filter t (range_with_len 0 n))) (f n) ∙ none-below t n f

pub places-none : (cs : List Candidate) → places_of (λ c. false) cs ≡ []
places-none cs = none-below (passes_at (λ c. false) cs) (length cs) (λ m. by_candidate (slice_get cs m))
  where
    by_candidate : (o : Option Candidate) → option_map_or (λ (c : Candidate). false) o false ≡ false
    by_candidate None = refl
    by_candidate (Some c) = refl

-- ---- the later of the last places of two lists

-- all places are below a bound, of which the first one is the greatest
abbrev Below : List ℕ → ℕ → Type 0
Below [] n = ⊤
Below (k ∷ ks) n = k < n

below-more : (xs : List ℕ) (n : ℕ) → Below xs n → Below xs (suc n)
below-more [] n b = tt
below-more (k ∷ ks) n b = let lt : k < n = b in let more_lt : k < suc n = omega (arith, lt) in more_lt

below-by : (t : ℕ → Bool) (n : ℕ) (b : Bool) → Below (down t n) n → Below (cond b (n ∷ down t n) (down t n)) (suc n)
below-by t n true h = let lt : n < suc n = omega arith in lt
below-by t n false h = below-more (down t n) n h

down-below : (t : ℕ → Bool) (n : ℕ) → Below (down t n) n
down-below t zero = tt
down-below t (suc n) = below-by t n (t n) (down-below t n)

first-later : (n : ℕ) (xs ys : List ℕ) → Below ys n → later (n ∷ xs) ys ≡ Some n
first-later n xs [] b = refl
first-later n xs (k ∷ ks) b = let lt : k < n = b in ap (λ t. Some (cond t k n)) (le-ltb n k (omega (arith, lt)))

second-later : (n : ℕ) (xs ys : List ℕ) → Below xs n → later xs (n ∷ ys) ≡ Some n
second-later n [] ys b = refl
second-later n (k ∷ ks) ys b = ap (λ t. Some (cond t n k)) (lt-ltb k n b)

both-later : (n : ℕ) (xs ys : List ℕ) → later (n ∷ xs) (n ∷ ys) ≡ Some n
both-later n xs ys = ap (λ t. Some (cond t n n)) (le-ltb n n (omega arith))

passed-here : (n : ℕ) (xs : List ℕ) → passed n (n ∷ xs) ≡ xs
passed-here n xs = ap (λ b. cond b xs (n ∷ xs)) (eq-eqb n n refl)

passed-other : (n : ℕ) (xs : List ℕ) → Below xs n → passed n xs ≡ xs
passed-other n [] b = refl
passed-other n (k ∷ ks) b = let lt : k < n = b in ap (λ t. cond t ks (k ∷ ks)) (ne_eqb k n (λ e. omega (arith, lt, e)))

-- What the later one of the two lists below a bound is: nothing after it is in one of them, and without it they are those below it.
pub record IsNext (t u : ℕ → Bool) (i j : ℕ) : Type 0 where
  pub below : j < i
  pub found : (t j ≡ true) ⊎ (u j ≡ true)
  pub named : passed j (down t i) ≡ down t j
  pub unnamed : passed j (down u i) ≡ down u j
  pub none : (m : ℕ) → j < m → m < i → (t m ≡ false) × (u m ≡ false)

some-is : (n j : ℕ) → Some n ≡ Some j → j ≡ n
some-is n j e = let s : n ≡ j = cc in sym s

next-by : (t u : ℕ → Bool) (n j : ℕ) (a b : Bool) → t n ≡ a → u n ≡ b
    → later (cond a (n ∷ down t n) (down t n)) (cond b (n ∷ down u n) (down u n)) ≡ Some j
    → (later (down t n) (down u n) ≡ Some j → IsNext t u n j) → IsNext t u (suc n) j
next-by t u n j true true p q e again = at_end (some-is n j (sym (both-later n (down t n) (down u n)) ∙ e))
  where
    at_end : j ≡ n → IsNext t u (suc n) j
    at_end s = record {
      below = omega (arith, s);
      found = inl (ap t s ∙ p);
      named =
          ap (λ k. passed k (down t (suc n))) s ∙ ap (λ x. passed n (cond x (n ∷ down t n) (down t n))) p ∙ passed-here n (down t n)
          ∙ ap (down t) (sym s);
      unnamed =
          ap (λ k. passed k (down u (suc n))) s ∙ ap (λ x. passed n (cond x (n ∷ down u n) (down u n))) q ∙ passed-here n (down u n)
          ∙ ap (down u) (sym s);
      none = λ m x y. absurd (omega (arith, s, x, y));
    }
next-by t u n j true false p q e again = at_end (some-is n j (sym (first-later n (down t n) (down u n) (down-below u n)) ∙ e))
  where
    at_end : j ≡ n → IsNext t u (suc n) j
    at_end s = record {
      below = omega (arith, s);
      found = inl (ap t s ∙ p);
      named =
          ap (λ k. passed k (down t (suc n))) s ∙ ap (λ x. passed n (cond x (n ∷ down t n) (down t n))) p ∙ passed-here n (down t n)
          ∙ ap (down t) (sym s);
      unnamed =
          ap (λ k. passed k (down u (suc n))) s ∙ ap (λ x. passed n (cond x (n ∷ down u n) (down u n))) q
          ∙ passed-other n (down u n) (down-below u n) ∙ ap (down u) (sym s);
      none = λ m x y. absurd (omega (arith, s, x, y));
    }
next-by t u n j false true p q e again = at_end (some-is n j (sym (second-later n (down t n) (down u n) (down-below t n)) ∙ e))
  where
    at_end : j ≡ n → IsNext t u (suc n) j
    at_end s = record {
      below = omega (arith, s);
      found = inr (ap u s ∙ q);
      named =
          ap (λ k. passed k (down t (suc n))) s ∙ ap (λ x. passed n (cond x (n ∷ down t n) (down t n))) p
          ∙ passed-other n (down t n) (down-below t n) ∙ ap (down t) (sym s);
      unnamed =
          ap (λ k. passed k (down u (suc n))) s ∙ ap (λ x. passed n (cond x (n ∷ down u n) (down u n))) q ∙ passed-here n (down u n)
          ∙ ap (down u) (sym s);
      none = λ m x y. absurd (omega (arith, s, x, y));
    }
next-by t u n j false false p q e again =
    let r : IsNext t u n j = again e in
    record {
      below = omega (arith, r.below);
      found = r.found;
      named = ap (λ x. passed j (cond x (n ∷ down t n) (down t n))) p ∙ r.named;
      unnamed = ap (λ x. passed j (cond x (n ∷ down u n) (down u n))) q ∙ r.unnamed;
      none = λ m x y. elim (cases_eq m n) [
        | inl s ↦ (ap t s ∙ p, ap u s ∙ q)
        | inr ne ↦ r.none m x (omega (arith, y, ne))
      ];
    }

pub next-is : (t u : ℕ → Bool) (i j : ℕ) → later (down t i) (down u i) ≡ Some j → IsNext t u i j
next-is t u zero j e = cc
next-is t u (suc n) j e = next-by t u n j (t n) (u n) refl refl e (λ q. next-is t u n j q)

-- none is left
later-none : (xs ys : List ℕ) → later xs ys ≡ None → (xs ≡ []) × (ys ≡ [])
later-none [] [] e = (refl, refl)
later-none [] (j ∷ js) e = cc
later-none (i ∷ is) [] e = cc
later-none (i ∷ is) (j ∷ js) e = cc

empty-by : (t : ℕ → Bool) (n m : ℕ) (b : Bool) → t n ≡ b → cond b (n ∷ down t n) (down t n) ≡ [] → m < suc n
    → (down t n ≡ [] → m < n → t m ≡ false) → t m ≡ false
empty-by t n m true p e lt again = cc
empty-by t n m false p e lt again = elim (cases_eq m n) [ inl s ↦ ap t s ∙ p | inr ne ↦ again e (omega (arith, lt, ne)) ]

down-empty : (t : ℕ → Bool) (n m : ℕ) → down t n ≡ [] → m < n → t m ≡ false
down-empty t zero m e lt = absurd (omega (arith, lt))
down-empty t (suc n) m e lt = empty-by t n m (t n) refl e lt (λ q h. down-empty t n m q h)

pub none-next : (t u : ℕ → Bool) (i m : ℕ) → later (down t i) (down u i) ≡ None → m < i → (t m ≡ false) × (u m ≡ false)
none-next t u i m e lt =
    let both : (down t i ≡ []) × (down u i ≡ []) = later-none (down t i) (down u i) e in
    (down-empty t i m both.0 lt, down-empty u i m both.1 lt)

-- the lists get shorter
passed-fewer : (j : ℕ) (xs : List ℕ) → length (passed j xs) ≤ length xs
passed-fewer j [] = omega arith
passed-fewer j (i ∷ is) = by_test (i == j)
  where
    by_test : (b : Bool) → length (cond b is (i ∷ is)) ≤ length (i ∷ is)
    by_test true = omega arith
    by_test false = omega arith

passed-less : (j : ℕ) (xs : List ℕ) → length (passed j (j ∷ xs)) < length (j ∷ xs)
passed-less j xs = let e : length (passed j (j ∷ xs)) ≡ length xs = ap (λ l. length l) (passed-here j xs) in omega (arith, e)

less-first : (i j : ℕ) (is ys : List ℕ) → j ≡ i
    → length (passed j (i ∷ is)) + length (passed j ys) < length (i ∷ is) + length ys
less-first i j is ys s =
    let a : length (passed j (i ∷ is)) < length (i ∷ is) = subst (λ k. length (passed k (i ∷ is)) < length (i ∷ is)) (sym s) (passed-less i is) in
    let b : length (passed j ys) ≤ length ys = passed-fewer j ys in
    omega (arith, a, b)

less-second : (i j : ℕ) (is ys : List ℕ) → j ≡ i
    → length (passed j ys) + length (passed j (i ∷ is)) < length ys + length (i ∷ is)
less-second i j is ys s =
    let a : length (passed j (i ∷ is)) < length (i ∷ is) = subst (λ k. length (passed k (i ∷ is)) < length (i ∷ is)) (sym s) (passed-less i is) in
    let b : length (passed j ys) ≤ length ys = passed-fewer j ys in
    omega (arith, a, b)

pub next-less : (xs ys : List ℕ) (j : ℕ) → later xs ys ≡ Some j → length (passed j xs) + length (passed j ys) < length xs + length ys
next-less [] [] j e = cc
next-less [] (k ∷ ks) j e = less-second k j ks [] (some-is k j e)
next-less (i ∷ is) [] j e = less-first i j is [] (some-is i j e)
next-less (i ∷ is) (k ∷ ks) j e = by_order (nat_lt i k) e
  where
    by_order : (b : Bool) → Some (cond b k i) ≡ Some j
        → length (passed j (i ∷ is)) + length (passed j (k ∷ ks)) < length (i ∷ is) + length (k ∷ ks)
    by_order true q = less-second k j ks (i ∷ is) (some-is k j q)
    by_order false q = less-first i j is (k ∷ ks) (some-is i j q)
