-- The children of a node are nodes of the tree, in document order.
use Rattle.std.proofs.Common.{◌≡◌, ◌<◌, ◌≤◌, ◌+◌, ℕ, zero, suc, Bool, true, false, cond, List, ◌∷◌, filter, length, drop, sym, subst, arith}
use Rattle.std.specs.List.{All, range_with_len}
use Rattle.std.proofs.lemmas.List.Elements.{All-nil, All-cons, All-drop, All-filter, All-from_get_or, All-head, All-same}
use Rattle.std.proofs.lemmas.List.FromFn.{get_or-range_with_len, length-range_with_len}
use Rattle.xs_value.specs.NodeSet.{IsNodeList}
use Rattle.xs_tree.specs.Record.{Record, children, is_child, places}

range-inside : (b a n : ℕ) → a + n ≤ b → All (λ k. k < b) (range_with_len a n)
range-inside b a zero h = All-nil (λ k. k < b)
range-inside b a (suc n) h =
    All-cons (λ k. k < b) a (range_with_len (a + 1) n) (omega (arith, h)) (range-inside b (a + 1) n (omega (arith, h)))

pub children-inside : (rs : List Record) (n : ℕ) → All (λ k. k < length rs) (children rs n)
children-inside rs n = All-filter (is_child rs n) (λ k. k < length rs) (places rs) (range-inside (length rs) 0 (length rs) (omega arith))

above : (p : ℕ → Bool) (a n : ℕ) → All (λ k. a < k) (filter p (range_with_len (a + 1) n))
above p a n =
    All-filter p (λ k. a < k) (range_with_len (a + 1) n)
    (All-from_get_or (λ k. a < k) (range_with_len (a + 1) n) 0 (λ i lt.
    let w : i < n = subst (λ m. i < m) (length-range_with_len (a + 1) n) lt in
    subst (λ k. a < k) (sym (get_or-range_with_len (a + 1) n i 0 w)) (omega arith)))

filter-order : (p : ℕ → Bool) (a n : ℕ) → IsNodeList (filter p (range_with_len a n))
filter-order p a zero = tt
filter-order p a (suc n) = by (p a) (filter-order p (a + 1) n)
  where
    by : (b : Bool) → IsNodeList (filter p (range_with_len (a + 1) n)) →
        IsNodeList (cond b (a ∷ filter p (range_with_len (a + 1) n)) (filter p (range_with_len (a + 1) n)))
    by true h = (above p a n, h)
    by false h = h

pub children-order : (rs : List Record) (n : ℕ) → IsNodeList (children rs n)
children-order rs n = filter-order (is_child rs n) 0 (length rs)

-- the next of some nodes
pub next-inside : (P : ℕ → Type 0) (ns : List ℕ) (i n : ℕ) (rest : List ℕ) → drop i ns ≡ n ∷ rest → All P ns → P n
next-inside P ns i n rest e a = All-head P n rest (All-same P (n ∷ rest) (drop i ns) (sym e) (All-drop P i ns a))
