-- A node that is looked for by halving, and what a call of `key` gives.
use Rattle.std.proofs.Common.{◌≡◌, ℕ, zero, suc, ◌<◌, ◌≤◌, ◌==◌, ◌||◌, ◌⊎◌, inl, inr, Bool, true, false, cond, List, [], ◌∷◌, filter, get_or, length}
use Rattle.std.proofs.Common.{refl, sym, ap, arith, ◌∙◌, Option, Some, None, Result, Ok, Err, nat_cmp}
use Rattle.std.proofs.lemmas.Bool.{eq-eqb, ne_eqb, true≢false}
use Rattle.std.proofs.lemmas.List.{append-nil}
use Rattle.std.proofs.lemmas.List.Elements.{All-filter, All-from_get_or, All-get_or}
use Rattle.std.proofs.lemmas.List.Folds.{list_any_at, list_any_none}
use Rattle.std.proofs.lemmas.List.Sorted.{searched}
use Rattle.std.specs.List.Sorted.{IsBinarySearchResult}
use Rattle.std.specs.Option.{option_map_or}
use Rattle.std.specs.Result.{is_ok}
use Rattle.xs_trace.specs.declared.fault.Fault.{Fault}
use Rattle.xs_tree.specs.Axis.{is_same_document, root_of}
use Rattle.xs_tree.specs.Record.{Record}
use Rattle.xs_tree.proofs.WalkLemmas.{le_or_gt}
use Rattle.xs_value.specs.NodeSet.{IsNodeList, in_order}
use Rattle.xs_value.specs.Tables.{Table, nodes_of, table_at}
use Rattle.xs_value.proofs.NodeSetLemmas.{in_order-same}
use Rattle.xs_eval_spec.specs.Context.{Context}
use Rattle.xs_eval_spec.specs.Evaluation.{run_of_tree}
use Rattle.xs_eval_spec.specs.Keys.{found, found_for, from_table, looked_up, number_of}
use Rattle.xs_eval_spec.specs.Names.{expanded_name}
use Rattle.xs_pattern_spec.specs.Predicates.{is_among, nodes_given, nodes_of as nodes_in, value_in}
use Rattle.xs_pattern.specs.steps.Keys.{has_node, key_call}

-- ---- halving

-- a list in document order does not fall
rises : (ns : List ℕ) → IsNodeList ns → (i j : ℕ) → i ≤ j → j < length ns → get_or ns i 0 ≤ get_or ns j 0
rises [] h i j l w = absurd (omega (arith, w))
rises (n ∷ ns) h zero zero l w = omega arith
rises (n ∷ ns) h zero (suc j) l w = omega (arith, All-get_or (λ k. n < k) ns j 0 (omega (arith, w)) h.0)
rises (n ∷ ns) h (suc i) zero l w = absurd (omega (arith, l))
rises (n ∷ ns) h (suc i) (suc j) l w = rises ns h.1 i j (omega (arith, l)) (omega (arith, w))

pub found-among : (n : ℕ) (ns : List ℕ) (r : Result ℕ ℕ) → IsNodeList ns → IsBinarySearchResult (λ k. nat_cmp k n) ns r → is_ok r ≡ is_among n ns
found-among n ns (Ok i) h s =
    let at = searched ns n (Ok i) s (rises ns h) in
    sym (list_any_at (λ k. k == n) ns i 0 at.0 (eq-eqb (get_or ns i 0) n at.1))
found-among n ns (Err i) h s =
    let parted = searched ns n (Err i) s (rises ns h) in
    sym (list_any_none (λ k. k == n) ns (All-from_get_or (λ k. (k == n) ≡ false) ns 0 (λ k w. differs k w parted.1 parted.2 (le_or_gt i k))))
  where
    differs : (k : ℕ) → k < length ns → ((j : ℕ) → j < i → get_or ns j 0 < n) → ((j : ℕ) → i ≤ j → j < length ns → n < get_or ns j 0)
        → (i ≤ k) ⊎ (k < i) → (get_or ns k 0 == n) ≡ false
    differs k w below above (inl a) = ne_eqb (get_or ns k 0) n (λ e. omega (arith, e, above k a w))
    differs k w below above (inr b) = ne_eqb (get_or ns k 0) n (λ e. omega (arith, e, below k b))

-- ---- what a call of `key` gives

-- what is kept of a list in document order is in document order
filter-list : (p : ℕ → Bool) (ns : List ℕ) → IsNodeList ns → IsNodeList (filter p ns)
filter-list p [] h = tt
filter-list p (n ∷ ns) h = by_test (p n) (filter-list p ns h.1)
  where
    by_test : (b : Bool) → IsNodeList (filter p ns) → IsNodeList (cond b (n ∷ filter p ns) (filter p ns))
    by_test true rest = (All-filter p (λ k. n < k) ns h.0, rest)
    by_test false rest = rest

-- a node that passes is among those that are kept as it was before
filter-among : (p : ℕ → Bool) (n : ℕ) → p n ≡ true → (ns : List ℕ) → is_among n (filter p ns) ≡ is_among n ns
filter-among p n t [] = refl
filter-among p n t (k ∷ ns) = by_test (p k) refl (filter-among p n t ns)
  where
    by_test : (b : Bool) → p k ≡ b → is_among n (filter p ns) ≡ is_among n ns
        → is_among n (cond b (k ∷ filter p ns) (filter p ns)) ≡ ((k == n) || is_among n ns)
    by_test true e rest = ap (λ r. (k == n) || r) rest
    by_test false e rest = rest ∙ ap (λ b. b || is_among n ns) (sym (ne_eqb k n (λ q. true≢false (sym t ∙ ap p (sym q) ∙ e))))

in_document : (rs : List Record) (n : ℕ) → is_same_document rs n n ≡ true
in_document rs n = eq-eqb (root_of rs n) (root_of rs n) refl

-- the context node is in its own document
found-node : (c : Context) (t : Table) (text : List ℕ) → IsNodeList (nodes_of text t.entries)
    → is_among c.node (found c t (text ∷ [])) ≡ is_among c.node (nodes_of text t.entries)
found-node c t text h =
    ap (λ ns. is_among c.node (in_order ns)) (append-nil (found_for c t text))
    ∙ ap (is_among c.node) (in_order-same (found_for c t text) (filter-list (is_same_document c.tree c.node) (nodes_of text t.entries) h))
    ∙ filter-among (is_same_document c.tree c.node) c.node (in_document c.tree c.node) (nodes_of text t.entries)

from-table : (c : Context) (t : Table) (f : Option Fault) (text : List ℕ) → IsNodeList (nodes_of text t.entries)
    → is_among c.node (option_map_or nodes_in (value_in (from_table c t f (text ∷ [])).end) []) ≡ has_node t f text c.node
from-table c t None text h = found-node c t text h
from-table c t (Some fault) text h = refl

-- whether a call gives the context node, by the number of its key
abbrev Given : List Table → Context → List ℕ → Option ℕ → Bool
Given keys c text o = is_among c.node (option_map_or nodes_in (value_in (looked_up keys c o (text ∷ [])).end) [])

pub key-known : (keys : List Table) (c : Context) (name text : List ℕ) (k : ℕ) → IsNodeList (nodes_of text (table_at keys k).entries)
    → number_of keys (expanded_name c.scope name) ≡ Some k
    → is_among c.node (nodes_given (run_of_tree keys (key_call name text)) c) ≡ has_node (table_at keys k) (table_at keys k).fault text c.node
key-known keys c name text k h e = ap (Given keys c text) e ∙ from-table c (table_at keys k) (table_at keys k).fault text h
