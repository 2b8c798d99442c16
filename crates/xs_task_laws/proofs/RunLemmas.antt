-- The nodes over which an instruction goes, and the values that it binds, are in the tree.
use Rattle.std.proofs.Common.{◌≡◌, ℕ, ◌<◌, Bool, true, false, cond, List, [], ◌∷◌, ◌++◌, All, length, map, zip, refl, Option, Some, None, subst, sym}
use Rattle.std.proofs.lemmas.List.Elements.{All-cons, All-head, All-map, All-nil, All-push, All-tail}
use Rattle.std.specs.List.{enumerate_from}
use Rattle.xs_sheet.specs.declared.body.SortDecl.{SortDecl}
use Rattle.xs_sheet.specs.declared.scoped.ScopedExpr.{ScopedExpr}
use Rattle.xs_trace.specs.Run.{Run, give, ◌>>=◌}
use Rattle.xs_tree.specs.Axis.{axis_list}
use Rattle.xs_tree.specs.Record.{Record, children}
use Rattle.xs_tree.specs.declared.axes.Axis.TheVariants.{Child}
use Rattle.xs_value.specs.Conversion.{IsIn}
use Rattle.xs_value.specs.Tables.{Table, TablesIn}
use Rattle.xs_value.specs.declared.value.Value.{Value}
use Rattle.xs_eval_spec.specs.Conditions.{IsContext, IsInIf}
use Rattle.xs_eval_spec.specs.Context.{Context}
use Rattle.xs_eval_spec.specs.Results.{given, nodes_in}
use Rattle.xs_eval_spec.proofs.AxisListLemmas.{axis-inside}
use Rattle.xs_sort_order.specs.declared.keys.Key.{Key}
use Rattle.xs_sort.specs.declared.orders.Order.{Order}
use Rattle.xs_sort_order.specs.InOrder.{in_order, insert}
use Rattle.xs_sort.specs.Sorting.{and_node, comes_before, in_turn, keys_of, orders_of, keyed_nodes, sorted, sorted_nodes}
use Rattle.xs_body_spec.specs.declared.focus.Focus.{Focus}
use Rattle.xs_body_spec.specs.World.{World, applied_nodes, context, looped_nodes, nodes_or_children, nodes_run, sorted_run, value_run}
use Rattle.xs_task_laws.proofs.ValueLemmas.{AnswerHas, AreIn, AreNodesIn, has_any, has_folded, has_then, nodes_given, placed_in, tree_in}

-- ---- sorted nodes (XSLT 1.0, 10)
abbrev Row : Type 0
Row = List Key × ℕ

abbrev AreRowsIn : List Record → List Row → Type 0
AreRowsIn rs rows = All (λ (row : Row). row.1 < length rs) rows

insert_in : (rs : List Record) (before : Row → Row → Bool) (x : Row) (ys : List Row) → x.1 < length rs → AreRowsIn rs ys → AreRowsIn rs (insert before x ys)
insert_in rs before x [] p h = All-cons (λ (row : Row). row.1 < length rs) x [] p h
insert_in rs before x (y ∷ ys) p h = by_test (before y x) (insert_in rs before x ys p (All-tail (λ (row : Row). row.1 < length rs) y ys h))
  where
    by_test : (t : Bool) → AreRowsIn rs (insert before x ys) → AreRowsIn rs (cond t (y ∷ insert before x ys) (x ∷ (y ∷ ys)))
    by_test true rest =
        All-cons (λ (row : Row). row.1 < length rs) y (insert before x ys) (All-head (λ (row : Row). row.1 < length rs) y ys h) rest
    by_test false rest = All-cons (λ (row : Row). row.1 < length rs) x (y ∷ ys) p h

ordered_in : (rs : List Record) (before : Row → Row → Bool) (rows : List Row) → AreRowsIn rs rows → AreRowsIn rs (in_order before rows)
ordered_in rs before [] h = h
ordered_in rs before (x ∷ xs) h =
    insert_in rs before x (in_order before xs) (All-head (λ (row : Row). row.1 < length rs) x xs h)
    (ordered_in rs before xs (All-tail (λ (row : Row). row.1 < length rs) x xs h))

row_in : (keys : List Table) (c : Context) (size : ℕ) (sorts : List (SortDecl × Order)) (rows : List Row) (p : ℕ × ℕ) → AreRowsIn c.tree rows
    → p.1 < length c.tree → AnswerHas (AreRowsIn c.tree) (and_node keys c size sorts rows p).end
row_in keys c size sorts rows p h w =
    let r : Run (List Key) = keys_of keys (in_turn c size p) sorts in
    has_then (λ ks. Unit {0}) (AreRowsIn c.tree) r.cost r.end (λ ks. give (rows ++ (ks, p.1) ∷ [])) (has_any r.end)
    (λ ks u. All-push (λ (row : Row). row.1 < length c.tree) rows (ks, p.1) h w)

sorted_in : (keys : List Table) (sorts : List SortDecl) (c : Context) (ns : List ℕ) → AreNodesIn c.tree ns
    → AnswerHas (AreNodesIn c.tree) (sorted keys sorts c ns).end
sorted_in keys sorts c ns h =
    let r : Run (List Order) = orders_of keys c sorts in
    let rows : List Order → Run (List Row) = λ orders. keyed_nodes keys c (zip sorts orders) ns in
    let begun : List Order → Run (List ℕ) = λ orders. rows orders >>= (λ found. give (sorted_nodes orders found)) in
    has_then (λ orders. Unit {0}) (AreNodesIn c.tree) r.cost r.end begun (has_any r.end) (λ orders u.
    has_then (AreRowsIn c.tree) (AreNodesIn c.tree) (rows orders).cost (rows orders).end (λ found. give (sorted_nodes orders found))
    (has_folded (λ (p : ℕ × ℕ). p.1 < length c.tree) (AreRowsIn c.tree) (and_node keys c (length ns) (zip sorts orders))
    (row_in keys c (length ns) (zip sorts orders)) [] (enumerate_from 1 ns) (All-nil (λ (row : Row). row.1 < length c.tree)) (placed_in c.tree 1 ns h))
    (λ found q. All-map (λ k. k < length c.tree) (λ (row : Row). row.1) (in_order (comes_before (map (λ (o : Order). o.direction) orders)) found)
    (ordered_in c.tree (comes_before (map (λ (o : Order). o.direction) orders)) found q)))

-- ---- what is over a tree
-- the nodes of the keys' tables and of the globals' values are in the tree
pub record IsOver (w : World) : Type 0 where
  pub globals : All (IsInIf w.tree) w.globals
  pub tables : TablesIn w.tree w.keys

children_listed : (rs : List Record) (n : ℕ) → children rs n ≡ axis_list Child rs n
unfolding axis_list
children_listed rs n = refl

pub children_in : (rs : List Record) (n : ℕ) → AreNodesIn rs (children rs n)
children_in rs n = subst (AreNodesIn rs) (sym (children_listed rs n)) (axis-inside Child rs n)

module _ (w : World) (over : IsOver w) where
  context_in : (f : Focus) (vs : List Value) (scope : List (List ℕ × List ℕ)) → f.node < length w.tree → AreIn w.tree vs
      → IsContext w.keys (context w f vs scope)
  context_in f vs scope n v = record { node = n; current = n; locals = v; globals = over.globals; tables = over.tables }

  pub value_in : (e : ScopedExpr) (f : Focus) (vs : List Value) → f.node < length w.tree → AreIn w.tree vs → AnswerHas (IsIn w.tree) (value_run w e f vs).end
  value_in e f vs n v = tree_in w.keys e.expr (context w f vs e.scope) (context_in f vs e.scope n v)

  nodes_in_tree : (e : ScopedExpr) (f : Focus) (vs : List Value) → f.node < length w.tree → AreIn w.tree vs
      → AnswerHas (AreNodesIn w.tree) (nodes_run w e f vs).end
  nodes_in_tree e f vs n v =
      let r : Run Value = value_run w e f vs in
      has_then (IsIn w.tree) (AreNodesIn w.tree) r.cost r.end (λ x. given (nodes_in x)) (value_in e f vs n v) (λ x q. nodes_given w.tree x q)

  selected_or_children : (o : Option ScopedExpr) (f : Focus) (vs : List Value) → f.node < length w.tree → AreIn w.tree vs
      → AnswerHas (AreNodesIn w.tree) (nodes_or_children w o f vs).end
  selected_or_children None f vs n v = children_in w.tree f.node
  selected_or_children (Some e) f vs n v = nodes_in_tree e f vs n v

  pub applied_in : (o : Option ScopedExpr) (sorts : List SortDecl) (f : Focus) (vs : List Value) → f.node < length w.tree → AreIn w.tree vs
      → AnswerHas (AreNodesIn w.tree) (applied_nodes w o sorts f vs).end
  applied_in o sorts f vs n v =
      let r : Run (List ℕ) = nodes_or_children w o f vs in
      has_then (AreNodesIn w.tree) (AreNodesIn w.tree) r.cost r.end (sorted_run w sorts f vs) (selected_or_children o f vs n v)
      (λ ns q. sorted_in w.keys sorts (context w f vs []) ns q)

  pub looped_in : (e : ScopedExpr) (sorts : List SortDecl) (f : Focus) (vs : List Value) → f.node < length w.tree → AreIn w.tree vs
      → AnswerHas (AreNodesIn w.tree) (looped_nodes w e sorts f vs).end
  looped_in e sorts f vs n v =
      let r : Run (List ℕ) = nodes_run w e f vs in
      has_then (AreNodesIn w.tree) (AreNodesIn w.tree) r.cost r.end (sorted_run w sorts f vs) (nodes_in_tree e f vs n v)
      (λ ns q. sorted_in w.keys sorts (context w f vs []) ns q)
