-- Relative paths of one step, and unions of them, as the code evaluates them: into one list of nodes.
use Rattle.std.specs.Prelude.{◌≡◌, ℕ, ◌+◌, ◌==◌, ◌&&◌, ◌++◌, Bool, true, false, List, [], ◌∷◌, Option, Some, None, is_some, length, if◌then◌else◌}
use Rattle.std.specs.Option.{option_and_then}
use Rattle.xs_trace.specs.Run.{Run, give, costs, fold, ◌>>=◌}
use Rattle.xs_tree.specs.declared.axes.Axis.{Axis}
use Rattle.xs_value.specs.declared.value.Value.{Value}
use Rattle.xs_value.specs.declared.value.Value.TheVariants.{Nodes}
use Rattle.xs_value.specs.NodeSet.{in_order}
use Rattle.xs_xpath.specs.declared.expr.Expr.{Expr}
use Rattle.xs_xpath.specs.declared.name.NodeTest.{NodeTest}
use Rattle.xs_xpath.specs.declared.token.Operator.{Operator}
use Rattle.xs_xpath.specs.Exprs.{tree_from, trees_from}
use Rattle.xs_xpath.specs.Patterns.{are_unions}
use Rattle.xs_xpath.specs.Tree as syntax
use Rattle.xs_xpath.specs.Tree.{Tree, Trees, no_trees, first_tree, step_of, trees}
use Rattle.xs_eval_spec.specs.Context.{Context}
use Rattle.xs_eval_spec.specs.Paths.{is_here, tested}

abbrev pub is_step : Tree → Bool
is_step e = is_some (step_of e)

-- a relative path has this step alone
pub record IsOnlyStep (start : Expr) (steps : List Expr) (step : Expr) : Type 0 where
  pub here : is_here (tree_from start) ≡ true
  pub alone : steps ≡ step ∷ []
  pub kind : is_step (tree_from step) ≡ true

-- the axis and the node test of a step without predicates
abbrev pub bare_test : Axis → NodeTest → Trees → Option (Axis × NodeTest)
bare_test axis which no_trees = Some (axis, which)
bare_test axis which (first_tree e es) = None

abbrev pub test_of : Tree → Option (Axis × NodeTest)
test_of e = option_and_then (λ s. bare_test s.0 s.1 s.2) (step_of e)

abbrev pub test_alone : Trees → Option (Axis × NodeTest)
test_alone (first_tree e no_trees) = test_of e
test_alone _ = None

abbrev pub plain_among : Tree → Trees → Option (Axis × NodeTest)
plain_among start es = if is_here start then test_alone es else None

-- those of the one step of a relative path
abbrev pub plain_step : Tree → Option (Axis × NodeTest)
plain_step (syntax.path start es) = plain_among start es
plain_step _ = None

abbrev pub is_plain : Option (Axis × NodeTest) → Bool
is_plain (Some step) = true
is_plain None = false

abbrev pub are_plain : Trees → Bool
are_plain no_trees = true
are_plain (first_tree e es) = is_plain (plain_step e) && are_plain es

-- a union of such paths
abbrev pub is_union_of_steps : List Operator → List Expr → Bool
is_union_of_steps ops es = (length ops + 1 == length es) && are_unions ops && are_plain (trees (trees_from es))

-- the nodes of a step after others, with a tick for each
abbrev pub and_tested : Context → List ℕ → Option (Axis × NodeTest) → Run (List ℕ)
and_tested c found None = give found
and_tested c found (Some step) = costs (length (tested step.0 step.1 c)) (give (found ++ tested step.0 step.1 c))

abbrev pub and_step : Context → List ℕ → Expr → Run (List ℕ)
and_step c found e = and_tested c found (plain_step (tree_from e))

-- the nodes of each, in one list
abbrev pub united : Context → List Expr → Run Value
united c es = do
  found ← fold (and_step c) [] es
  give (Nodes (in_order found))
