-- What predicates keep of some nodes.
use Rattle.std.proofs.Common.{◌≡◌, ℕ, suc, ◌+◌, ◌<◌, ◌≤◌, ◌==◌, ◌&&◌, ◌||◌, Bool, true, false, cond, List, [], ◌∷◌, ◌++◌, All, filter, length, map}
use Rattle.std.proofs.Common.{drop, get_or, refl, sym, ap, subst, ◌∙◌, arith, append_assoc, inl, inr, Option, Some, None}
use Rattle.std.proofs.lemmas.Bool.{and_parts, eqb-true, or_cases, or_left, or_right, true≢false, false_from_ne_true}
use Rattle.std.proofs.lemmas.List.{append-nil, at_drop_all}
use Rattle.std.proofs.lemmas.List.Elements.{All-cons, All-head, All-nil, All-tail}
use Rattle.std.specs.List.{enumerate_from}
use Rattle.xs_eval_spec.specs.Context.{Context}
use Rattle.xs_eval_spec.specs.Paths.{Meaning, kept_if}
use Rattle.xs_eval_spec.specs.Nodes.{AreSome}
use Rattle.xs_eval_spec.proofs.StepLemmas.{from_here, placed_at, placed_below, placed_end}
use Rattle.xs_pattern_spec.specs.Predicates.{all_kept, holds, is_among, kept}
use Rattle.xs_pattern.specs.steps.Alone.{AreSaid, IsSaid}

-- the nodes of those that pass, of nodes with their positions
abbrev pub passing : (ℕ × ℕ → Bool) → List (ℕ × ℕ) → List ℕ
passing h placed = map (λ p. p.1) (filter h placed)

passing-cons : (h : ℕ × ℕ → Bool) (p : ℕ × ℕ) (ps : List (ℕ × ℕ)) → passing h (p ∷ ps) ≡ cond (h p) (p.1 ∷ passing h ps) (passing h ps)
passing-cons h p ps = by_test (h p)
  where
    by_test : (b : Bool) → map (λ (q : ℕ × ℕ). q.1) (cond b (p ∷ filter h ps) (filter h ps)) ≡ cond b (p.1 ∷ passing h ps) (passing h ps)
    by_test true = refl
    by_test false = refl

-- those from a place on
abbrev pub from_place : (ℕ × ℕ → Bool) → List ℕ → ℕ → List ℕ
from_place h ns k = passing h (drop k (enumerate_from 1 ns))

from-next : (h : ℕ × ℕ → Bool) (ns : List ℕ) (k x : ℕ) → k < length ns → x ≡ get_or ns k x
    → from_place h ns k ≡ cond (h (k + 1, x)) (x ∷ from_place h ns (k + 1)) (from_place h ns (k + 1))
from-next h ns k x lt e =
    ap (passing h) (from_here (enumerate_from 1 ns) k (k + 1, x) (placed_below ns k lt) (placed_at ns k x lt e))
    ∙ passing-cons h (k + 1, x) (drop (k + 1) (enumerate_from 1 ns))

pub from-end : (h : ℕ × ℕ → Bool) (ns : List ℕ) (k : ℕ) → length ns ≤ k → from_place h ns k ≡ []
from-end h ns k le = at_drop_all (passing h) (enumerate_from 1 ns) k (placed_end ns k le)

-- ---- the loop that keeps them

kept-by : (b : Bool) (found : List ℕ) (x : ℕ) (rest : List ℕ) → kept_if b found x ++ rest ≡ found ++ cond b (x ∷ rest) rest
kept-by true found x rest = append_assoc found (x ∷ []) rest
kept-by false found x rest = refl

pub kept-on : (h : ℕ × ℕ → Bool) (ns : List ℕ) (k x : ℕ) (found whole : List ℕ) (b : Bool) → found ++ from_place h ns k ≡ whole → k < length ns
    → x ≡ get_or ns k x → b ≡ h (k + 1, x) → kept_if b found x ++ from_place h ns (k + 1) ≡ whole
kept-on h ns k x found whole b i lt e q =
    kept-by b found x (from_place h ns (k + 1))
    ∙ ap (λ c. found ++ cond c (x ∷ from_place h ns (k + 1)) (from_place h ns (k + 1))) q
    ∙ ap (λ l. found ++ l) (sym (from-next h ns k x lt e))
    ∙ i

pub kept-end : (h : ℕ × ℕ → Bool) (ns : List ℕ) (k : ℕ) (found whole : List ℕ) → found ++ from_place h ns k ≡ whole → length ns ≤ k → found ≡ whole
kept-end h ns k found whole i le = sym (append-nil found) ∙ ap (λ l. found ++ l) (sym (from-end h ns k le)) ∙ i

-- ---- the loop that looks for one node

among-by : (n x : ℕ) (b : Bool) (rest : List ℕ) → is_among n (cond b (x ∷ rest) rest) ≡ (((x == n) && b) || is_among n rest)
among-by n x true rest = by_test (x == n)
  where
    by_test : (t : Bool) → (t || is_among n rest) ≡ ((t && true) || is_among n rest)
    by_test true = refl
    by_test false = refl
among-by n x false rest = by_test (x == n)
  where
    by_test : (t : Bool) → is_among n rest ≡ ((t && false) || is_among n rest)
    by_test true = refl
    by_test false = refl

among-next : (h : ℕ × ℕ → Bool) (ns : List ℕ) (n k x : ℕ) → k < length ns → x ≡ get_or ns k x
    → is_among n (from_place h ns k) ≡ (((x == n) && h (k + 1, x)) || is_among n (from_place h ns (k + 1)))
among-next h ns n k x lt e = ap (is_among n) (from-next h ns k x lt e) ∙ among-by n x (h (k + 1, x)) (from_place h ns (k + 1))

pub among-found : (h : ℕ × ℕ → Bool) (ns : List ℕ) (n k x : ℕ) (whole b : Bool) → is_among n (from_place h ns k) ≡ whole → k < length ns
    → x ≡ get_or ns k x → b ≡ ((x == n) && h (k + 1, x)) → b ≡ true → true ≡ whole
among-found h ns n k x whole b i lt e q t =
    sym (or_left _ (is_among n (from_place h ns (k + 1))) (sym q ∙ t)) ∙ sym (among-next h ns n k x lt e) ∙ i

pub among-on : (h : ℕ × ℕ → Bool) (ns : List ℕ) (n k x : ℕ) (whole b : Bool) → is_among n (from_place h ns k) ≡ whole → k < length ns
    → x ≡ get_or ns k x → b ≡ ((x == n) && h (k + 1, x)) → b ≡ false → is_among n (from_place h ns (k + 1)) ≡ whole
among-on h ns n k x whole b i lt e q f =
    ap (λ t. t || is_among n (from_place h ns (k + 1))) (sym f ∙ q) ∙ sym (among-next h ns n k x lt e) ∙ i

pub among-end : (h : ℕ × ℕ → Bool) (ns : List ℕ) (n k : ℕ) (whole : Bool) → is_among n (from_place h ns k) ≡ whole → length ns ≤ k → false ≡ whole
among-end h ns n k whole i le = ap (is_among n) (sym (from-end h ns k le)) ∙ i

-- ---- what is kept is among the nodes

passing-all : (P : ℕ → Type 0) (h : ℕ × ℕ → Bool) (i : ℕ) (ns : List ℕ) → All P ns → All P (passing h (enumerate_from i ns))
passing-all P h i [] a = All-nil P
passing-all P h i (n ∷ ns) a =
    subst (λ (l : List ℕ). All P l) (sym (passing-cons h (i, n) (enumerate_from (i + 1) ns)))
    (by_test (h (i, n)) (passing-all P h (i + 1) ns (All-tail P n ns a)))
  where
    by_test : (b : Bool) → All P (passing h (enumerate_from (i + 1) ns))
        → All P (cond b (n ∷ passing h (enumerate_from (i + 1) ns)) (passing h (enumerate_from (i + 1) ns)))
    by_test true q = All-cons P n _ (All-head P n ns a) q
    by_test false q = q

passing-few : (h : ℕ × ℕ → Bool) (i : ℕ) (ns : List ℕ) → length (passing h (enumerate_from i ns)) ≤ length ns
passing-few h i [] = let e : 0 ≤ 0 = omega arith in e
passing-few h i (n ∷ ns) =
    subst (λ (l : List ℕ). length l ≤ suc (length ns)) (sym (passing-cons h (i, n) (enumerate_from (i + 1) ns)))
    (by_test (h (i, n)) (passing-few h (i + 1) ns))
  where
    by_test : (b : Bool) → length (passing h (enumerate_from (i + 1) ns)) ≤ length ns
        → length (cond b (n ∷ passing h (enumerate_from (i + 1) ns)) (passing h (enumerate_from (i + 1) ns))) ≤ suc (length ns)
    by_test true q = let e : suc (length (passing h (enumerate_from (i + 1) ns))) ≤ suc (length ns) = omega (arith, q) in e
    by_test false q = omega (arith, q)

pub kept-some : (c : Context) (m : Meaning) (ns : List ℕ) → AreSome c.tree ns → AreSome c.tree (kept c ns m)
kept-some c m ns a =
    let few : length (kept c ns m) ≤ length ns = passing-few (holds c m (length ns)) 1 ns in
    record {
      inside = passing-all (λ n. n < length c.tree) (holds c m (length ns)) 1 ns a.inside;
      few = omega (arith, few, a.few);
    }

passing-among : (h : ℕ × ℕ → Bool) (n i : ℕ) (ns : List ℕ) → is_among n (passing h (enumerate_from i ns)) ≡ true → is_among n ns ≡ true
passing-among h n i [] e = absurd (true≢false (sym e))
passing-among h n i (x ∷ xs) e =
    let d : (((x == n) && h (i, x)) || is_among n (passing h (enumerate_from (i + 1) xs))) ≡ true =
    sym (ap (is_among n) (passing-cons h (i, x) (enumerate_from (i + 1) xs)) ∙ among-by n x (h (i, x)) (passing h (enumerate_from (i + 1) xs))) ∙ e in
    elim (or_cases ((x == n) && h (i, x)) _ d) [
      | inl q ↦ or_left (x == n) (is_among n xs) (and_parts (x == n) (h (i, x)) q).0
      | inr q ↦ or_right (x == n) (is_among n xs) (passing-among h n (i + 1) xs q)
    ]

-- what is not among the nodes is not kept of them
pub not-kept : (c : Context) (n : ℕ) (ms : List Meaning) (ns : List ℕ) → is_among n ns ≡ false → is_among n (all_kept c ns ms) ≡ false
not-kept c n [] ns e = e
not-kept c n (m ∷ ms) ns e =
    not-kept c n ms (kept c ns m)
    (false_from_ne_true (is_among n (kept c ns m)) (λ q. true≢false (sym (passing-among (holds c m (length ns)) n 1 ns q) ∙ e)))

-- ---- what predicates say of a node wherever it stands

absorbed : (b a : Bool) → (b || (a && b)) ≡ b
absorbed true a = refl
absorbed false true = refl
absorbed false false = refl

passing-said : (h : ℕ × ℕ → Bool) (n i : ℕ) (b : Bool) (ns : List ℕ) → ((p : ℕ) → h (p, n) ≡ b)
    → is_among n (passing h (enumerate_from i ns)) ≡ (is_among n ns && b)
passing-said h n i b [] all = refl
passing-said h n i b (x ∷ xs) all =
    ap (is_among n) (passing-cons h (i, x) (enumerate_from (i + 1) xs))
    ∙ among-by n x (h (i, x)) (passing h (enumerate_from (i + 1) xs))
    ∙ ap (λ t. ((x == n) && h (i, x)) || t) (passing-said h n (i + 1) b xs all)
    ∙ here (x == n) (λ q. ap (λ y. h (i, y)) (eqb-true x n q) ∙ all i)
  where
    here : (t : Bool) → (t ≡ true → h (i, x) ≡ b) → ((t && h (i, x)) || (is_among n xs && b)) ≡ ((t || is_among n xs) && b)
    here true e = ap (λ y. y || (is_among n xs && b)) (e refl) ∙ absorbed b (is_among n xs)
    here false e = refl

kept-said : (c : Context) (n : ℕ) (m : Meaning) (b : Bool) (ns : List ℕ) → IsSaid n c m (Some b) → is_among n ns ≡ true → is_among n (kept c ns m) ≡ b
kept-said c n m b ns all a = passing-said (holds c m (length ns)) n 1 b ns (λ p. all (length ns) p) ∙ ap (λ t. t && b) a

-- no predicate
pub said-none : (n : ℕ) (c : Context) → AreSaid n c [] (Some true)
said-none n c = λ ns a. a

-- one that drops the node
pub said-dropped : (n : ℕ) (c : Context) (m : Meaning) (ms : List Meaning) → IsSaid n c m (Some false) → AreSaid n c (m ∷ ms) (Some false)
said-dropped n c m ms all = λ ns a. not-kept c n ms (kept c ns m) (kept-said c n m false ns all a)

-- one that keeps it: the others decide
pub said-on : (n : ℕ) (c : Context) (m : Meaning) (ms : List Meaning) (o : Option Bool) → IsSaid n c m (Some true) → AreSaid n c ms o → AreSaid n c (m ∷ ms) o
said-on n c m ms None all rest = tt
said-on n c m ms (Some b) all rest = λ ns a. rest (kept c ns m) (kept-said c n m true ns all a)
