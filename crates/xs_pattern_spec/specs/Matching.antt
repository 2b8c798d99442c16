-- Whether a node matches a pattern (XSLT 1.0, 5.2). A node matches where the pattern's path, evaluated from the node or from one of
-- its ancestors, has it in its value. So it is gone over from the last step to the first: each step has to select the node from the
-- node's parent, and then the parent has to match what stands before the step; for `//`, the parent or one of its ancestors.
use Rattle.std.specs.Prelude.{ℕ, ◌&&◌, Bool, true, false, List, [], ◌∷◌, reverse, if◌then◌else◌}
use Rattle.std.specs.List.{list_any}
use Rattle.std.specs.Option.{option_map_or}
use Rattle.xs_sheet.specs.declared.scoped.ScopedPattern.{ScopedPattern}
use Rattle.xs_tree.specs.declared.axes.Axis.{Axis}
use Rattle.xs_tree.specs.declared.axes.Axis.TheVariants.{AncestorOrSelf}
use Rattle.xs_tree.specs.Axis.{axis_list}
use Rattle.xs_tree.specs.Record.{Record, at}
use Rattle.xs_value.specs.Tables.{Table}
use Rattle.xs_xpath.specs.declared.name.NodeTest.{NodeTest}
use Rattle.xs_xpath.specs.Patterns.{listed, is_pattern_axis}
use Rattle.xs_xpath.specs.Tree.{Tree, number, literal, variable, call, negative, chain, group, here, root, step, descend, filter, path}
use Rattle.xs_eval_spec.specs.Context.{Context, at_node}
use Rattle.xs_eval_spec.specs.Evaluation.{run_of_tree, runs_of_trees}
use Rattle.xs_eval_spec.specs.Paths.{Meaning, tested}
use Rattle.xs_pattern_spec.specs.Predicates.{all_kept, is_among, nodes_given}

-- the context in which a pattern is gone over: the node that is tried, under the namespace declarations in scope for the pattern.
-- A pattern has no variables, and does not call `current` (5.3 and 12.4).
abbrev pub pattern_context : List Record → List (List ℕ × List ℕ) → ℕ → Context
pattern_context rs scope n = record {
  tree = rs;
  node = n;
  position = 1;
  size = 1;
  current = n;
  locals = [];
  globals = [];
  scope = scope;
}

abbrev pub placed_at : Context → ℕ → Context
placed_at c n = at_node c n c.position c.size

-- the nodes that a step selects from the context node, on the child or the attribute axis (XPath 1.0, 2.1)
abbrev pub step_nodes : Axis → NodeTest → List Meaning → Context → List ℕ
step_nodes axis test predicates c = if is_pattern_axis axis then all_kept c (tested axis test c) predicates else []

abbrev pub selected : List Table → Tree → Context → List ℕ
selected keys (step axis test es) c = step_nodes axis test (runs_of_trees keys es) c
selected keys (number n) c = []
selected keys (literal text) c = []
selected keys (variable uri local slot) c = []
selected keys (call function es) c = []
selected keys (negative signs e) c = []
selected keys (chain ops es) c = []
selected keys (group e) c = []
selected keys here c = []
selected keys root c = []
selected keys descend c = []
selected keys (filter e es) c = []
selected keys (path start es) c = []

abbrev pub is_descend : Tree → Bool
is_descend descend = true
is_descend _ = false

-- Whether the node at n is at the end of a path, by where the path begins and its steps, the last one first. A relative path may
-- begin at any node, `/` begins at a root, and `id` and `key` at the nodes that they give.
unfoldable pub ends_path : List Table → Context → (start : Tree) → (steps : List Tree) → ℕ → Bool
ends_path keys c start [] n = is_among n (nodes_given (run_of_tree keys start) (placed_at c n))
ends_path keys c start (s ∷ before) n =
    if is_descend s then list_any (ends_path keys c start before) (axis_list AncestorOrSelf c.tree n)
    else option_map_or (λ p. is_among n (selected keys s (placed_at c p)) && ends_path keys c start before p) (at c.tree n).parent false

-- where a path begins, and its steps
abbrev pub start_of : Tree → Tree
start_of (path start es) = start
start_of e = e

abbrev pub steps_of : Tree → List Tree
steps_of (path start es) = listed es
steps_of e = []

-- whether the context node matches an alternative of a pattern
unfoldable pub matches_path : List Table → Context → Tree → Bool
matches_path keys c e = ends_path keys c (start_of e) (reverse (steps_of e)) c.node

-- whether the node at n matches a pattern, by its alternatives
unfoldable pub matches : List Table → List Record → (scope : List (List ℕ × List ℕ)) → (alternatives : List Tree) → ℕ → Bool
matches keys rs scope alternatives n = list_any (matches_path keys (pattern_context rs scope n)) alternatives

-- the same of a pattern of a stylesheet
abbrev pub is_match : List Table → List Record → ScopedPattern → ℕ → Bool
is_match keys rs p n = matches keys rs p.scope p.pattern n
