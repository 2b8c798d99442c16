-- What a transformation is evaluated over, where one is in it, and what expressions give there.
use Rattle.std.specs.Prelude.{ℕ, length, Bool, List, [], Option, Some, None}
use Rattle.xs_num.specs.declared.number.Number.{Number}
use Rattle.xs_sheet.specs.declared.body.SortDecl.{SortDecl}
use Rattle.xs_sheet.specs.declared.scoped.ScopedExpr.{ScopedExpr}
use Rattle.xs_sheet.specs.declared.scoped.ValueTemplate.{ValueTemplate}
use Rattle.xs_sheet.specs.declared.sheet.Sheet.{Sheet}
use Rattle.xs_trace.specs.Run.{Run, give, costs, ◌>>=◌}
use Rattle.xs_tree.specs.Record.{Record, children}
use Rattle.xs_value.specs.declared.value.Value.{Value}
use Rattle.xs_value.specs.Conversion.{bool_value, number_value, text_value}
use Rattle.xs_value.specs.Tables.{Table}
use Rattle.xs_eval_spec.specs.Context.{Context}
use Rattle.xs_eval_spec.specs.Evaluation.{run_of_tree}
use Rattle.xs_eval_spec.specs.Results.{given, nodes_in, numeric}
use Rattle.xs_eval_spec.specs.Templates.{template}
use Rattle.xs_attribute_sets.specs.declared.index.SetIndex.{SetIndex}
use Rattle.xs_sort.specs.Sorting.{sorted}
use Rattle.xs_body_spec.specs.declared.focus.Focus.{Focus}

pub record World : Type 0 where
  pub sheet : Sheet
  -- by which its attribute sets are found; nothing that it does depends on this
  pub index : SetIndex
  -- the nodes of all documents
  pub tree : List Record
  -- the tables of the keys
  pub keys : List Table
  -- the values of the globals; one that is not settled has none (XSLT 1.0, 11.4)
  pub globals : List (Option Value)
  -- the most nodes over which one piece goes, where larger runs are left to tasks
  pub grain : Option ℕ

-- the current node alone in its list (XSLT 1.0, 5.1), with no current rule, where so many levels of templates and of attribute sets may
-- be begun
abbrev pub alone_at : ℕ → (depth set_levels : ℕ) → Focus
alone_at n depth set_levels = record {
  node = n;
  position = 1;
  size = 1;
  rule = None;
  mode = 0;
  depth = depth;
  set_levels = set_levels;
  is_captured = Bool.false;
}

-- ---- the next focus: at another node of the list; in a list of so many nodes; in captured content; where so many levels of templates
-- and of attribute sets may be begun; by a rule in a mode (5.6, 5.7); in a for-each, where no rule is current (5.6)
abbrev pub at_node : ℕ → ℕ → Focus → Focus
at_node n i f = record {
  node = n;
  position = i;
  size = f.size;
  rule = f.rule;
  mode = f.mode;
  depth = f.depth;
  set_levels = f.set_levels;
  is_captured = f.is_captured;
}

abbrev pub in_list : ℕ → Focus → Focus
in_list size f = record {
  node = f.node;
  position = f.position;
  size = size;
  rule = f.rule;
  mode = f.mode;
  depth = f.depth;
  set_levels = f.set_levels;
  is_captured = f.is_captured;
}

abbrev pub captured_in : Focus → Focus
captured_in f = record {
  node = f.node;
  position = f.position;
  size = f.size;
  rule = f.rule;
  mode = f.mode;
  depth = f.depth;
  set_levels = f.set_levels;
  is_captured = Bool.true;
}

abbrev pub with_levels : (depth set_levels : ℕ) → Focus → Focus
with_levels depth set_levels f = record {
  node = f.node;
  position = f.position;
  size = f.size;
  rule = f.rule;
  mode = f.mode;
  depth = depth;
  set_levels = set_levels;
  is_captured = f.is_captured;
}

abbrev pub by_rule : ℕ → ℕ → Focus → Focus
by_rule rule mode f = record {
  node = f.node;
  position = f.position;
  size = f.size;
  rule = Some rule;
  mode = mode;
  depth = f.depth;
  set_levels = f.set_levels;
  is_captured = f.is_captured;
}

abbrev pub without_rule : Focus → Focus
without_rule f = record {
  node = f.node;
  position = f.position;
  size = f.size;
  rule = None;
  mode = f.mode;
  depth = f.depth;
  set_levels = f.set_levels;
  is_captured = f.is_captured;
}

-- the levels of attribute sets in a template: no set uses itself, so that they never run out (7.1.4)
abbrev pub all_set_levels : World → ℕ
all_set_levels w = length w.sheet.sets

-- ---- expressions: the current node is the context node (XSLT 1.0, 4 and 12.4)
abbrev pub context : World → Focus → List Value → (scope : List (List ℕ × List ℕ)) → Context
context w f vs scope = record {
  tree = w.tree;
  node = f.node;
  position = f.position;
  size = f.size;
  current = f.node;
  locals = vs;
  globals = w.globals;
  scope = scope;
}

abbrev pub value_run : World → ScopedExpr → Focus → List Value → Run Value
value_run w e f vs = run_of_tree w.keys e.expr (context w f vs e.scope)

-- its value as a node-set, which it has to be (5.4, 8); as a string (7.6.1); as a boolean (9.1, 9.2); as a number (7.7)
abbrev pub nodes_run : World → ScopedExpr → Focus → List Value → Run (List ℕ)
nodes_run w e f vs = value_run w e f vs >>= (λ v. given (nodes_in v))

abbrev pub text_run : World → ScopedExpr → Focus → List Value → Run (List ℕ)
text_run w e f vs = value_run w e f vs >>= (λ v. give (text_value w.tree v))

abbrev pub test_run : World → ScopedExpr → Focus → List Value → Run Bool
test_run w e f vs = value_run w e f vs >>= (λ v. give (bool_value v))

abbrev pub numeric_run : World → ScopedExpr → Focus → List Value → Run Number
numeric_run w e f vs = value_run w e f vs >>= (λ v. given (numeric (number_value w.tree v)))

-- the text of a value template (7.6.2)
abbrev pub template_run : World → ValueTemplate → Focus → List Value → Run (List ℕ)
template_run w v f vs = template w.keys v.parts (context w f vs v.scope)

-- the nodes to which templates are applied: without `select` all children, each of which takes a tick, as `child::node()` (5.4)
abbrev pub nodes_or_children : World → Option ScopedExpr → Focus → List Value → Run (List ℕ)
nodes_or_children w None f vs = costs (length (children w.tree f.node)) (give (children w.tree f.node))
nodes_or_children w (Some e) f vs = nodes_run w e f vs

-- nodes in the order of sort keys, which are evaluated over their list as it was (10); those whose keys tie stay in their order
abbrev pub sorted_run : World → List SortDecl → Focus → List Value → List ℕ → Run (List ℕ)
sorted_run w sorts f vs ns = sorted w.keys sorts (context w f vs []) ns

-- the nodes to which templates are applied, and those of a for-each, in their order (5.4, 8)
abbrev pub applied_nodes : World → Option ScopedExpr → List SortDecl → Focus → List Value → Run (List ℕ)
applied_nodes w select sorts f vs = nodes_or_children w select f vs >>= sorted_run w sorts f vs

abbrev pub looped_nodes : World → ScopedExpr → List SortDecl → Focus → List Value → Run (List ℕ)
looped_nodes w select sorts f vs = nodes_run w select f vs >>= sorted_run w sorts f vs

-- the same, with another grain
abbrev pub with_grain : Option ℕ → World → World
with_grain grain w = record w { grain = grain }

-- the same, with another index
abbrev pub with_index : SetIndex → World → World
with_index index w = record w { index = index }

-- one over which no global has a value yet, and nothing is left to tasks
abbrev pub ground : Sheet → SetIndex → List Record → List Table → World
ground sheet index tree keys = record { sheet = sheet; index = index; tree = tree; keys = keys; globals = []; grain = None }
