use Rattle.std.proofs.Common.{◌≡◌, ◌++◌, filter}
use Rattle.xs_tree.specs.Axis.{axis_list}
use Rattle.xs_tree.specs.Record.{at}
use Rattle.xs_eval_spec.specs.Paths.{passes, tested}
use Rattle.xs_eval.proofs.node_tests.find_on_axis.Given as goal

-- what was found, with those that pass of the nodes that are left, is what was found before with the whole
abbrev pub invariant-loop-node : goal.invariant-loop-node
invariant-loop-node l =
    (goal.iterator-loop-node).can_next l.node-iterator ×
    (goal.iterator-loop-node).is_finite l.node-iterator ×
    (l.yielded ++ l.node-iterator ≡ axis_list l.axis l.context.tree l.context.node) ×
    (l.found ++ filter (λ k. passes l.axis l.test (at l.context.tree k)) l.node-iterator ≡ l.fn.found ++ tested l.axis l.test l.context)
