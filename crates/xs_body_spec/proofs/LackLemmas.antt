-- The run of an expression, and of a value template, lacks a global variable only where that is there without a value.
use Rattle.std.proofs.Common.{◌≡◌, ℕ, ◌++◌, List, [], ◌∷◌, Bool, true, false, cond, length, Option, Some, None, Ok, Err, slice_get, sym, ap}
use Rattle.std.specs.List.{enumerate_from}
use Rattle.std.specs.Prelude.{codes, zip}
use Rattle.std.specs.Str.{bytes_eq}
use Rattle.xs_num.specs.Text.{number_in}
use Rattle.xs_sheet.specs.declared.body.SortDecl.{SortDecl}
use Rattle.xs_sheet.specs.declared.scoped.ValueTemplate.{ValueTemplate}
use Rattle.xs_sort_order.specs.declared.keys.Direction.{Direction}
use Rattle.xs_sort_order.specs.declared.keys.Direction.TheVariants.{Ascending, Descending}
use Rattle.xs_sort_order.specs.declared.keys.Key.{Key}
use Rattle.xs_sort_order.specs.declared.keys.Key.TheVariants.{Numeral}
use Rattle.xs_sort.specs.declared.orders.Order.{Order}
use Rattle.xs_sort.specs.Sorting.{and_key, and_order, and_node, direction_in, in_turn, key_in, key_of, keys_of, order_in, order_of, orders_of, keyed_nodes}
use Rattle.xs_sort.specs.Sorting.{sorted, sorted_nodes, template_text, under}
use Rattle.xs_trace.specs.Run.{Run, Answer, Gives, Faults, Lacks, ◌>>=◌, go_on, give, fail, fold}
use Rattle.xs_trace.specs.declared.fault.Fault.TheVariants.{BadValue}
use Rattle.xs_trace.specs.declared.fault.Fault.{Fault}
use Rattle.xs_value.specs.declared.value.Value.{Value}
use Rattle.xs_value.specs.declared.value.Value.TheVariants.{Nodes}
use Rattle.xs_value.specs.Conversion.{text_value}
use Rattle.xs_value.specs.NodeSet.{in_order}
use Rattle.xs_value.specs.Tables.{Table, table_at}
use Rattle.xs_xpath.specs.declared.name.Function.{Function}
use Rattle.xs_xpath.specs.declared.name.NodeTest.{NodeTest}
use Rattle.xs_xpath.specs.declared.name.NodeTest.TheVariants.{Node}
use Rattle.xs_xpath.specs.declared.name.Slot.{Slot}
use Rattle.xs_xpath.specs.declared.name.Slot.TheVariants.{Local, Global}
use Rattle.xs_xpath.specs.declared.token.Operator.{Operator}
use Rattle.xs_tree.specs.declared.axes.Axis.{Axis}
use Rattle.xs_tree.specs.declared.axes.Axis.TheVariants.{DescendantOrSelf}
use Rattle.xs_xpath.specs.Templates.{Part, text, computed}
use Rattle.xs_xpath.specs.Tree as syntax
use Rattle.xs_xpath.specs.Tree.{Tree, Trees, no_trees, first_tree}
use Rattle.xs_eval_spec.specs.Calls.{called, is_key}
use Rattle.xs_eval_spec.specs.Context.{Context, at_node}
use Rattle.xs_eval_spec.specs.Evaluation.{and_argument, answered, arguments, called_of, chain, global, joined, joined_from, local, negative, right_operated}
use Rattle.xs_eval_spec.specs.Evaluation.{run_of_tree, runs_of_trees, unless, variable}
use Rattle.xs_eval_spec.specs.Functions.{first, second}
use Rattle.xs_eval_spec.specs.Keys.{from_table, keyed, looked_up}
use Rattle.xs_eval_spec.specs.Operators.{decided, negation, operated}
use Rattle.xs_eval_spec.specs.Paths.{Meaning, all_filtered, and_from, filter_expr, filtered, judged, kept_if, kept_of, path, selected, selects, step, steps_from}
use Rattle.xs_eval_spec.specs.Paths.{tested}
use Rattle.xs_eval_spec.specs.Paths.{through}
use Rattle.xs_eval_spec.specs.Results.{Outcome, given, nodes_in, numeric}
use Rattle.xs_eval_spec.specs.Templates.{and_part, template}

-- what an answer lacks is without a value
abbrev pub LacksOnly : {A : Type 0} → List (Option Value) → Answer A → Type 0
LacksOnly gs (Gives x) = Unit {0}
LacksOnly gs (Faults f) = Unit {0}
LacksOnly gs (Lacks g) = slice_get gs g ≡ Some None

module _ (gs : List (Option Value)) where
  abbrev HasValue : {A : Type 0} → Answer A → Type 0
  HasValue a = LacksOnly gs a

  -- what lacks no other over these globals
  abbrev Settles : Meaning → Type 0
  Settles m = (c : Context) → c.globals ≡ gs → HasValue (m c).end

  abbrev AllSettle : List Meaning → Type 0
  AllSettle [] = Unit {0}
  AllSettle (m ∷ ms) = Settles m × AllSettle ms

  -- what follows a value
  pub value-on : {A B : Type 0} (n : ℕ) (a : Answer A) (f : A → Run B) → HasValue a → ((x : A) → HasValue (f x).end) → HasValue (go_on n a f).end
  value-on n (Gives x) f h k = k x
  value-on n (Faults e) f h k = tt
  value-on n (Lacks g) f h k = h

  pub value-then : {A B : Type 0} (r : Run A) (f : A → Run B) → HasValue r.end → ((x : A) → HasValue (f x).end) → HasValue (go_on r.cost r.end f).end
  value-then r f h k = value-on r.cost r.end f h k

  pub given-value : {A : Type 0} (o : Outcome A) → HasValue (given o).end
  given-value (Ok x) = tt
  given-value (Err f) = tt

  fold-value : {A B : Type 0} (f : B → A → Run B) (b : B) (xs : List A) → ((c : B) (a : A) → HasValue (f c a).end) → HasValue (fold f b xs).end
  fold-value f b [] k = tt
  fold-value f b (a ∷ rest) k = value-then (f b a) (λ c. fold f c rest) (k b a) (λ c. fold-value f c rest k)

  -- variables
  local-value : (o : Option Value) → HasValue (local o).end
  local-value None = tt
  local-value (Some v) = tt

  global-value : (k : ℕ) (o : Option (Option Value)) → slice_get gs k ≡ o → HasValue (global k o).end
  global-value k None e = tt
  global-value k (Some None) e = e
  global-value k (Some (Some v)) e = tt

  variable-settles : (slot : Option Slot) → Settles (variable slot)
  variable-settles None c e = tt
  variable-settles (Some (Local k)) c e = local-value (slice_get c.locals k)
  variable-settles (Some (Global k)) c e = global-value k (slice_get c.globals k) (ap (λ (g : List (Option Value)). slice_get g k) (sym e))

  -- calls
  arguments-value : (ms : List Meaning) → AllSettle ms → (c : Context) → c.globals ≡ gs → (vs : List Value)
      → HasValue (fold (and_argument c) vs ms).end
  arguments-value [] h c e vs = tt
  arguments-value (m ∷ ms) h c e vs =
      value-then (and_argument c vs m) (λ ws. fold (and_argument c) ws ms) (value-then (m c) (λ v. give (vs ++ v ∷ [])) (h.0 c e) (λ v. tt))
      (λ ws. arguments-value ms h.1 c e ws)

  table-value : (c : Context) (t : Table) (fault : Option Fault) (texts : List (List ℕ)) → HasValue (from_table c t fault texts).end
  table-value c t None texts = tt
  table-value c t (Some f) texts = tt

  looked_up-value : (keys : List Table) (c : Context) (k : Option ℕ) (texts : List (List ℕ)) → HasValue (looked_up keys c k texts).end
  looked_up-value keys c None texts = tt
  looked_up-value keys c (Some k) texts = table-value c (table_at keys k) (table_at keys k).fault texts

  one-value : {A : Type 0} (b : Bool) (q r : Run A) → HasValue q.end → HasValue r.end → HasValue (cond b q r).end
  one-value true q r h k = h
  one-value false q r h k = k

  answered-value : (keys : List Table) (c : Context) (function : Function) (vs : List Value) → HasValue (answered keys c function vs).end
  answered-value keys c function vs =
      one-value (is_key function) (keyed keys c (first vs) (second vs)) (given (called c function vs)) (looked_up-value keys c _ _)
      (given-value (called c function vs))

  call-settles : (keys : List Table) (function : Function) (ms : List Meaning) → AllSettle ms
      → Settles (called_of keys function ms)
  call-settles keys function ms h c e =
      value-then (arguments c ms) (answered keys c function) (arguments-value ms h c e []) (λ vs. answered-value keys c function vs)

  -- operators
  unless-value : (o : Option Bool) (r : Run Value) → HasValue r.end → HasValue (unless o r).end
  unless-value (Some b) r h = tt
  unless-value None r h = h

  joined-value : (op : Operator) (left : Value) (m : Meaning) → Settles m → Settles (joined op left m)
  joined-value op left m h c e =
      unless-value (decided op left) (right_operated op left m c)
      (value-then (m c) (λ v. given (operated op c.tree left v)) (h c e) (λ v. given-value (operated op c.tree left v)))

  joined_from-value : (ms : List Meaning) → AllSettle ms → (c : Context) → c.globals ≡ gs → (left : Value) (ops : List Operator)
      → HasValue (joined_from c left ops ms).end
  joined_from-value [] h c e left ops = tt
  joined_from-value (m ∷ ms) h c e left [] = tt
  joined_from-value (m ∷ ms) h c e left (op ∷ ops) =
      value-then (joined op left m c) (λ v. joined_from c v ops ms) (joined-value op left m h.0 c e) (λ v. joined_from-value ms h.1 c e v ops)

  chain-settles : (ops : List Operator) (ms : List Meaning) → AllSettle ms → Settles (chain ops ms)
  chain-settles ops [] h c e = tt
  chain-settles ops (m ∷ ms) h c e = value-then (m c) (λ v. joined_from c v ops ms) (h.0 c e) (λ v. joined_from-value ms h.1 c e v ops)

  negative-settles : (signs : ℕ) (m : Meaning) → Settles m → Settles (negative signs m)
  negative-settles signs m h c e =
      value-then (m c) (λ v. given (negation signs c.tree v)) (h c e) (λ v. given-value (negation signs c.tree v))

  -- predicates, steps and paths
  filtered-value : (m : Meaning) → Settles m → (c : Context) → c.globals ≡ gs → (ns : List ℕ) → HasValue (filtered c ns m).end
  filtered-value m h c e ns =
      fold-value (judged c (length ns) m) [] (enumerate_from 1 ns)
      (λ kept placed. value-then (m (at_node c placed.1 placed.0 (length ns))) (λ v. give (kept_if (selects v placed.0) kept placed.1))
      (h (at_node c placed.1 placed.0 (length ns)) e) (λ v. tt))

  all_filtered-value : (ms : List Meaning) → AllSettle ms → (c : Context) → c.globals ≡ gs → (ns : List ℕ)
      → HasValue (all_filtered c ns ms).end
  all_filtered-value [] h c e ns = tt
  all_filtered-value (m ∷ ms) h c e ns =
      value-then (filtered c ns m) (λ ks. all_filtered c ks ms) (filtered-value m h.0 c e ns) (λ ks. all_filtered-value ms h.1 c e ks)

  kept_of-value : (ms : List Meaning) → AllSettle ms → (c : Context) → c.globals ≡ gs → (ns : List ℕ)
      → HasValue (kept_of c ms ns).end
  kept_of-value ms h c e ns =
      value-then (all_filtered c ns ms) (λ kept. give (Nodes (in_order kept))) (all_filtered-value ms h c e ns) (λ kept. tt)

  step-settles : (axis : Axis) (test : NodeTest) (ms : List Meaning) → AllSettle ms → Settles (step axis test ms)
  step-settles axis test ms h c e = kept_of-value ms h c e (tested axis test c)

  selected-value : (m : Meaning) → Settles m → (c : Context) → c.globals ≡ gs → HasValue (selected m c).end
  selected-value m h c e = value-then (m c) (λ v. given (nodes_in v)) (h c e) (λ v. given-value (nodes_in v))

  through-value : (m : Meaning) → Settles m → (c : Context) → c.globals ≡ gs → (ns : List ℕ) → HasValue (through c ns m).end
  through-value m h c e ns =
      value-then (fold (and_from c m) [] ns) (λ found. give (in_order found)) (fold-value (and_from c m) [] ns
      (λ found n. value-then (selected m (at_node c n c.position c.size)) (λ ks. give (found ++ ks)) (selected-value m h (at_node c n c.position c.size) e)
      (λ ks. tt))) (λ found. tt)

  reached-value : (ms : List Meaning) → AllSettle ms → (c : Context) → c.globals ≡ gs → (ns : List ℕ)
      → HasValue (fold (through c) ns ms).end
  reached-value [] h c e ns = tt
  reached-value (m ∷ ms) h c e ns =
      value-then (through c ns m) (λ ks. fold (through c) ks ms) (through-value m h.0 c e ns) (λ ks. reached-value ms h.1 c e ks)

  steps_from-value : (ms : List Meaning) → AllSettle ms → (c : Context) → c.globals ≡ gs → (ns : List ℕ)
      → HasValue (steps_from c ms ns).end
  steps_from-value ms h c e ns = value-then (fold (through c) ns ms) (λ reached. give (Nodes reached)) (reached-value ms h c e ns) (λ reached. tt)

  path-settles : (start : Meaning) (ms : List Meaning) → Settles start → AllSettle ms → Settles (path start ms)
  path-settles start ms h k c e = value-then (selected start c) (steps_from c ms) (selected-value start h c e) (λ ns. steps_from-value ms k c e ns)

  filter-settles : (m : Meaning) (ms : List Meaning) → Settles m → AllSettle ms → Settles (filter_expr m ms)
  filter-settles m ms h k c e = value-then (selected m c) (kept_of c ms) (selected-value m h c e) (λ ns. kept_of-value ms k c e ns)

  -- expressions
  mutual
    pub tree-settles : (keys : List Table) (e : Tree) → Settles (run_of_tree keys e)
    tree-settles keys (syntax.number n) c is = tt
    tree-settles keys (syntax.literal bytes) c is = tt
    tree-settles keys (syntax.variable uri local slot) c is = variable-settles slot c is
    tree-settles keys (syntax.call function es) c is = call-settles keys function (runs_of_trees keys es) (trees-settle keys es) c is
    tree-settles keys (syntax.negative signs e) c is = negative-settles signs (run_of_tree keys e) (tree-settles keys e) c is
    tree-settles keys (syntax.chain ops es) c is = chain-settles ops (runs_of_trees keys es) (trees-settle keys es) c is
    tree-settles keys (syntax.group e) c is = tree-settles keys e c is
    tree-settles keys syntax.here c is = tt
    tree-settles keys syntax.root c is = tt
    tree-settles keys (syntax.step axis test es) c is = step-settles axis test (runs_of_trees keys es) (trees-settle keys es) c is
    tree-settles keys syntax.descend c is = step-settles DescendantOrSelf Node [] tt c is
    tree-settles keys (syntax.filter e es) c is =
        filter-settles (run_of_tree keys e) (runs_of_trees keys es) (tree-settles keys e) (trees-settle keys es) c is
    tree-settles keys (syntax.path e es) c is =
        path-settles (run_of_tree keys e) (runs_of_trees keys es) (tree-settles keys e) (trees-settle keys es) c is

    trees-settle : (keys : List Table) (es : Trees) → AllSettle (runs_of_trees keys es)
    trees-settle keys no_trees = tt
    trees-settle keys (first_tree e es) = (tree-settles keys e, trees-settle keys es)

  -- value templates
  part-value : (keys : List Table) (c : Context) → c.globals ≡ gs → (before : List ℕ) (part : Part) → HasValue (and_part keys c before part).end
  part-value keys c e before (text fixed) = tt
  part-value keys c e before (computed tree) =
      value-then (run_of_tree keys tree c) (λ v. give (before ++ text_value c.tree v)) (tree-settles keys tree c e) (λ v. tt)

  pub template-value : (keys : List Table) (parts : List Part) (c : Context) → c.globals ≡ gs → HasValue (template keys parts c).end
  template-value keys parts c e = fold-value (and_part keys c) [] parts (λ before part. part-value keys c e before part)

  -- sort keys
  text-value : (keys : List Table) (c : Context) → c.globals ≡ gs → (absent : List ℕ) (o : Option ValueTemplate) →
      HasValue (template_text keys c absent o).end
  text-value keys c e absent None = tt
  text-value keys c e absent (Some t) = template-value keys t.parts (under t.scope c) e

  direction-value : (order : List ℕ) → HasValue (direction_in order).end
  direction-value order = one-value (bytes_eq order (codes "ascending")) (give Ascending)
      (cond (bytes_eq order (codes "descending")) (give Descending) (fail BadValue)) tt
      (one-value (bytes_eq order (codes "descending")) (give Descending) (fail BadValue) tt tt)

  order-value : (keys : List Table) (c : Context) → c.globals ≡ gs → (s : SortDecl) → HasValue (order_of keys c s).end
  order-value keys c e s =
      let last : List ℕ → Direction → Run Order = λ kind direction. give (order_in kind direction) in
      let next : List ℕ → List ℕ → Run Order = λ kind order. direction_in order >>= last kind in
      let begun : List ℕ → Run Order = λ kind. template_text keys c (codes "ascending") s.order >>= next kind in
      value-then (template_text keys c (codes "text") s.data_type) begun (text-value keys c e (codes "text") s.data_type) (λ kind.
      value-then (template_text keys c (codes "ascending") s.order) (next kind) (text-value keys c e (codes "ascending") s.order) (λ order.
      value-then (direction_in order) (last kind) (direction-value order) (λ direction. tt)))

  key-in-value : (is_numeric : Bool) (string : List ℕ) → HasValue (key_in is_numeric string).end
  key-in-value false string = tt
  key-in-value true string =
      value-then (given (numeric (number_in string))) (λ n. give (Numeral n)) (given-value (numeric (number_in string))) (λ n. tt)

  key-value : (keys : List Table) (c : Context) → c.globals ≡ gs → (s : SortDecl × Order) → HasValue (key_of keys c s).end
  key-value keys c e s =
      value-then (run_of_tree keys s.0.select.expr (under s.0.select.scope c)) (λ v. key_in s.1.is_numeric (text_value c.tree v))
      (tree-settles keys s.0.select.expr (under s.0.select.scope c) e) (λ v. key-in-value s.1.is_numeric (text_value c.tree v))

  keys-value : (keys : List Table) (c : Context) → c.globals ≡ gs → (sorts : List (SortDecl × Order)) → HasValue (keys_of keys c sorts).end
  keys-value keys c e sorts = fold-value (and_key keys c) [] sorts (λ done s.
      value-then (key_of keys c s) (λ key. give (done ++ key ∷ [])) (key-value keys c e s) (λ key. tt))

  rows-value : (keys : List Table) (c : Context) → c.globals ≡ gs → (sorts : List (SortDecl × Order)) (ns : List ℕ) → HasValue (keyed_nodes keys c sorts ns).end
  rows-value keys c e sorts ns = fold-value (and_node keys c (length ns) sorts) [] (enumerate_from 1 ns) (λ rows at.
      value-then (keys_of keys (in_turn c (length ns) at) sorts) (λ row. give (rows ++ (row, at.1) ∷ []))
      (keys-value keys (in_turn c (length ns) at) e sorts) (λ row. tt))

  orders-value : (keys : List Table) (c : Context) → c.globals ≡ gs → (sorts : List SortDecl) → HasValue (orders_of keys c sorts).end
  orders-value keys c e sorts = fold-value (and_order keys c) [] sorts (λ orders s.
      value-then (order_of keys c s) (λ order. give (orders ++ order ∷ [])) (order-value keys c e s) (λ order. tt))

  -- sorting lacks no other
  pub sorted-value : (keys : List Table) (sorts : List SortDecl) (c : Context) → c.globals ≡ gs → (ns : List ℕ) → HasValue (sorted keys sorts c ns).end
  sorted-value keys sorts c e ns =
      let last : List Order → List (List Key × ℕ) → Run (List ℕ) = λ orders rows. give (sorted_nodes orders rows) in
      let begun : List Order → Run (List ℕ) = λ orders. keyed_nodes keys c (zip sorts orders) ns >>= last orders in
      value-then (orders_of keys c sorts) begun (orders-value keys c e sorts) (λ orders.
      value-then (keyed_nodes keys c (zip sorts orders) ns) (last orders) (rows-value keys c e (zip sorts orders) ns) (λ rows. tt))
