-- The nodes of values are in the tree, and no more than it has.
use Rattle.std.proofs.Common.{◌≡◌, ℕ, ◌+◌, ◌<◌, ◌≤◌, arith, sym, ◌==◌, nat_lt, Bool, true, false, cond}
use Rattle.std.proofs.Common.{List, [], ◌∷◌, ◌++◌, All, length, suc, Ok, IfOk}
use Rattle.std.proofs.Common.{subst}
use Rattle.std.proofs.lemmas.List.{length-append}
use Rattle.std.proofs.lemmas.List.Elements.{All-append, All-cons, All-head, All-push, All-tail}
use Rattle.xs_tree.specs.Record.{Record}
use Rattle.xs_value.specs.declared.value.Value.{Value}
use Rattle.xs_value.specs.declared.value.Value.TheVariants.{Bool as Boolean, Number as Numeral, Chars, Nodes, Piece}
use Rattle.xs_value.specs.Conversion.{IsIn}
use Rattle.xs_value.specs.NodeSet.{IsNodeList, with_node, in_order, union_of}
use Rattle.xs_value.specs.Tables.{Table}
use Rattle.xs_eval_spec.specs.Context.{Context, at_node}
use Rattle.xs_eval_spec.specs.Conditions.{IsContext}
use Rattle.xs_eval_spec.specs.Paths.{kept_if}
use Rattle.xs_eval_spec.specs.Results.{Outcome, nodes_in}
use Rattle.xs_eval_spec.specs.Nodes.{AreSome}

if_all : (P : ℕ → Type 0) (b : Bool) (xs ys : List ℕ) → All P xs → All P ys → All P (cond b xs ys)
if_all P true xs ys p q = p
if_all P false xs ys p q = q

with_node_all : (P : ℕ → Type 0) (n : ℕ) (ns : List ℕ) → P n → All P ns → All P (with_node n ns)
with_node_all P n [] p q = All-cons P n [] p q
with_node_all P n (k ∷ ks) p q =
    if_all P (n == k) (k ∷ ks) (cond (nat_lt n k) (n ∷ k ∷ ks) (k ∷ with_node n ks)) q
    (if_all P (nat_lt n k) (n ∷ k ∷ ks) (k ∷ with_node n ks) (All-cons P n (k ∷ ks) p q)
    (All-cons P k (with_node n ks) (All-head P k ks q) (with_node_all P n ks p (All-tail P k ks q))))

-- nodes that are put in order
pub in_order_all : (P : ℕ → Type 0) (ns : List ℕ) → All P ns → All P (in_order ns)
in_order_all P [] q = q
in_order_all P (n ∷ ns) q = with_node_all P n (in_order ns) (All-head P n ns q) (in_order_all P ns (All-tail P n ns q))

-- the context at another node
pub moved : (keys : List Table) (c : Context) (n p k : ℕ) → IsContext keys c → n < length c.tree → IsContext keys (at_node c n p k)
moved keys c n p k h lt = record { node = lt; current = h.current; locals = h.locals; globals = h.globals; tables = h.tables }

abbrev AreIn : List Record → List ℕ → Type 0
AreIn rs ns = All (λ n. n < length rs) ns

-- the nodes of a value
nodes_in_all : (rs : List Record) (v : Value) → IsIn rs v → IfOk (nodes_in v) (AreIn rs)
nodes_in_all rs (Nodes ks) h = h
nodes_in_all rs (Boolean b) h = tt
nodes_in_all rs (Numeral n) h = tt
nodes_in_all rs (Chars text) h = tt
nodes_in_all rs (Piece events) h = tt

pub nodes_inside : (rs : List Record) (v : Value) (ns : List ℕ) → IsIn rs v → nodes_in v ≡ Ok ns → All (λ n. n < length rs) ns
nodes_inside rs v ns h e = subst (λ (r : Outcome (List ℕ)). IfOk r (AreIn rs)) e (nodes_in_all rs v h)

-- the nodes of two node-sets
pub union_inside : (rs : List Record) (left right : Value) (ns ks : List ℕ) → IsIn rs left → IsIn rs right → nodes_in left ≡ Ok ns → nodes_in right ≡ Ok ks
    → All (λ n. n < length rs) (union_of ns ks)
union_inside rs left right ns ks p q d e =
    in_order_all (λ n. n < length rs) (ns ++ ks) (All-append (λ n. n < length rs) ns ks (nodes_inside rs left ns p d) (nodes_inside rs right ks q e))

-- nodes in document order, each once, are no more than there are nodes
few_behind : (n k : ℕ) (ns : List ℕ) → n < k → All (λ j. n < j) ns → IsNodeList ns → All (λ j. j < k) ns → (n + 1) + length ns ≤ k
few_behind n k [] h a l b = let e : (n + 1) + 0 ≤ k = omega (arith, h) in e
few_behind n k (m ∷ ns) h a l b =
    let i : (m + 1) + length ns ≤ k = few_behind m k ns (All-head (λ j. j < k) m ns b) l.0 l.1 (All-tail (λ j. j < k) m ns b) in
    let f : n < m = All-head (λ j. n < j) m ns a in
    let e : (n + 1) + suc (length ns) ≤ k = omega (arith, i, f) in e

few_in_list : (k : ℕ) (ns : List ℕ) → IsNodeList ns → All (λ j. j < k) ns → length ns ≤ k
few_in_list k [] l b = let e : 0 ≤ k = omega arith in e
few_in_list k (m ∷ ns) l b =
    let i : (m + 1) + length ns ≤ k = few_behind m k ns (All-head (λ j. j < k) m ns b) l.0 l.1 (All-tail (λ j. j < k) m ns b) in
    let e : suc (length ns) ≤ k = omega (arith, i) in e

pub some_in_list : (rs : List Record) (ns : List ℕ) → IsNodeList ns → AreIn rs ns → AreSome rs ns
some_in_list rs ns l b = record { inside = b; few = few_in_list (length rs) ns l b }

-- what a predicate keeps
pub kept_if_all : (P : ℕ → Type 0) (b : Bool) (kept : List ℕ) (n : ℕ) → All P kept → P n → All P (kept_if b kept n)
kept_if_all P true kept n p q = All-push P kept n p q
kept_if_all P false kept n p q = p

pub kept_if_few : (b : Bool) (kept : List ℕ) (n k : ℕ) → length kept ≤ k → length (kept_if b kept n) ≤ k + 1
kept_if_few true kept n k h = subst (λ (j : ℕ). j ≤ k + 1) (sym (length-append kept (n ∷ []))) (omega (arith, h))
kept_if_few false kept n k h = omega (arith, h)
