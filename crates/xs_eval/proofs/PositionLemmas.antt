-- A predicate that is a number keeps the node at that position.
use Rattle.std.proofs.Common.{◌≡◌, ℕ, zero, suc, ◌+◌, ◌-◌, ◌<◌, ◌≤◌, arith, Bool, true, false, cond, List, [], ◌∷◌, ◌++◌, All, length}
use Rattle.std.proofs.Common.{None, slice_get, ℤ, pos, negsuc, int_lt, refl, sym, ap, ◌∙◌}
use Rattle.std.proofs.lemmas.Bool.Decides.{nat_tests}
use Rattle.std.proofs.lemmas.List.{append-nil, append_assoc}
use Rattle.std.proofs.lemmas.List.Elements.{All-cons, All-head, All-nil, All-tail}
use Rattle.std.specs.List.{enumerate_from}
use Rattle.std.specs.Option.{option_to_list}
use Rattle.std.specs.Ordering.{int_eq}
use Rattle.xs_num.specs.declared.number.Number.{Number}
use Rattle.xs_num.specs.declared.number.Number.TheVariants.{Whole, NaN}
use Rattle.xs_trace.specs.Run.{costs, fold, give, ◌>>=◌}
use Rattle.xs_tree.specs.Record.{Record}
use Rattle.xs_value.specs.declared.value.Value.TheVariants.{Number as Numeral}
use Rattle.xs_eval_spec.specs.Context.{Context, at_node}
use Rattle.xs_eval_spec.specs.Paths.{Meaning, filtered, is_position, judged, kept_if, selects}
use Rattle.xs_eval_spec.specs.Nodes.{AreSome}
use Rattle.xs_eval.specs.steps.Positions.{node_at, picked}

-- ---- what a constant predicate keeps

kept-more : (b : Bool) (kept rest : List ℕ) (x : ℕ) → kept_if b kept x ++ rest ≡ kept ++ (kept_if b [] x ++ rest)
kept-more true kept rest x = append_assoc kept (x ∷ []) rest
kept-more false kept rest x = refl

judged-number : (m : Meaning) (n : Number) → ((a : Context) → m a ≡ give (Numeral n)) → (c : Context) (size i : ℕ) (kept ns : List ℕ)
    → fold (judged c size m) kept (enumerate_from i ns) ≡ give (kept ++ picked n i ns)
judged-number m n h c size i kept [] = ap give (sym (append-nil kept))
judged-number m n h c size i kept (x ∷ xs) =
    let rest : List (ℕ × ℕ) = enumerate_from (i + 1) xs in
    let more : List ℕ = kept_if (is_position n i) kept x in
    ap (λ r. (r >>= (λ v. give (kept_if (selects v i) kept x))) >>= (λ ys. fold (judged c size m) ys rest)) (h (at_node c x i size))
    ∙ ap (costs 0) (judged-number m n h c size (i + 1) more xs)
    ∙ ap give (kept-more (is_position n i) kept (picked n (i + 1) xs) x)

pub filtered_by_number : (m : Meaning) (n : Number) → ((a : Context) → m a ≡ give (Numeral n)) → (c : Context) (ns : List ℕ)
    → filtered c ns m ≡ give (picked n 1 ns)
filtered_by_number m n h c ns = judged-number m n h c (length ns) 1 [] ns

-- ---- the nodes that it keeps are some of those

picked-all : (P : ℕ → Type 0) (n : Number) (i : ℕ) (ns : List ℕ) → All P ns → All P (picked n i ns)
picked-all P n i [] h = All-nil P
picked-all P n i (x ∷ xs) h =
    let rest : All P (picked n (i + 1) xs) = picked-all P n (i + 1) xs (All-tail P x xs h) in
    elim (is_position n i) as (λ b. All P (kept_if b [] x ++ picked n (i + 1) xs)) [
      | true ↦ All-cons P x (picked n (i + 1) xs) (All-head P x xs h) rest
      | false ↦ rest
    ]

picked-few : (n : Number) (i : ℕ) (ns : List ℕ) → length (picked n i ns) ≤ length ns
picked-few n i [] = let e : 0 ≤ 0 = omega arith in e
picked-few n i (x ∷ xs) =
    let rest : length (picked n (i + 1) xs) ≤ length xs = picked-few n (i + 1) xs in
    elim (is_position n i) as (λ b. length (kept_if b [] x ++ picked n (i + 1) xs) ≤ suc (length xs)) [
      | true ↦ let e : suc (length (picked n (i + 1) xs)) ≤ suc (length xs) = omega (arith, rest) in e
      | false ↦ let e : length (picked n (i + 1) xs) ≤ suc (length xs) = omega (arith, rest) in e
    ]

pub picked_some : (rs : List Record) (n : Number) (ns : List ℕ) → AreSome rs ns → AreSome rs (picked n 1 ns)
picked_some rs n ns h =
    let few : length (picked n 1 ns) ≤ length ns = picked-few n 1 ns in
    let most : length ns ≤ length rs = h.few in
    record { inside = picked-all (λ k. k < length rs) n 1 ns h.inside; few = omega (arith, few, most) }

-- ---- the node at a place

picked-never : (n : Number) (i : ℕ) (ns : List ℕ) → ((j : ℕ) → i ≤ j → is_position n j ≡ false) → picked n i ns ≡ []
picked-never n i [] h = refl
picked-never n i (x ∷ xs) h =
    ap (λ b. kept_if b [] x ++ picked n (i + 1) xs) (h i (omega arith)) ∙ picked-never n (i + 1) xs (λ j l. h j (omega (arith, l)))

not-position : (p j : ℕ) → p < j → int_eq (pos p) (pos j) ≡ false
not-position p j l = grind (arith, nat_tests)

its-position : (p : ℕ) → int_eq (pos p) (pos p) ≡ true
its-position p = grind (arith, nat_tests)

no-position : (k j : ℕ) → int_eq (negsuc k) (pos j) ≡ false
no-position k j = grind (arith, nat_tests)

-- the node that is so many places after the first one
picked-at : (k i : ℕ) (ns : List ℕ) → option_to_list (slice_get ns k) ≡ picked (Whole (pos (i + k))) i ns
picked-at k i [] = refl
picked-at zero i (x ∷ xs) =
    let here : i + 0 ≡ i = omega arith in
    let rest : picked (Whole (pos (i + 0))) (i + 1) xs ≡ [] =
    picked-never (Whole (pos (i + 0))) (i + 1) xs (λ j l. not-position (i + 0) j (omega (arith, l))) in
    ap (λ ys. x ∷ ys) (sym rest)
    ∙ ap (λ b. kept_if b [] x ++ picked (Whole (pos (i + 0))) (i + 1) xs) (sym (its-position i) ∙ ap (λ p. int_eq (pos p) (pos i)) (sym here))
picked-at (suc k) i (x ∷ xs) =
    let further : (i + 1) + k ≡ i + suc k = omega arith in
    let apart : int_eq (pos (i + suc k)) (pos i) ≡ false = grind (arith, nat_tests) in
    picked-at k (i + 1) xs
    ∙ ap (λ p. picked (Whole (pos p)) (i + 1) xs) further
    ∙ ap (λ b. kept_if b [] x ++ picked (Whole (pos (i + suc k))) (i + 1) xs) (sym apart)

below : (k : ℕ) → int_lt (pos (suc k)) (pos 1) ≡ false
below k = grind (arith, nat_tests)

pub node_is_picked : (z : ℤ) (ns : List ℕ) → option_to_list (node_at z ns) ≡ picked (Whole z) 1 ns
node_is_picked (negsuc k) ns =
    let low : int_lt (negsuc k) (pos 1) ≡ true = grind (arith, nat_tests) in
    ap (λ b. option_to_list (cond b None (slice_get ns 0))) low ∙ sym (picked-never (Whole (negsuc k)) 1 ns (λ j l. no-position k j))
node_is_picked (pos zero) ns = sym (picked-never (Whole (pos 0)) 1 ns (λ j l. not-position 0 j (omega (arith, l))))
node_is_picked (pos (suc k)) ns =
    let place : suc k - 1 ≡ k = omega arith in
    let next : 1 + k ≡ suc k = omega arith in
    ap (λ b. option_to_list (cond b None (slice_get ns (suc k - 1)))) (below k)
    ∙ ap (λ j. option_to_list (slice_get ns j)) place
    ∙ picked-at k 1 ns
    ∙ ap (λ p. picked (Whole (pos p)) 1 ns) next

pub none_is_picked : (ns : List ℕ) → [] ≡ picked NaN 1 ns
none_is_picked ns = sym (picked-never NaN 1 ns (λ j l. refl))
