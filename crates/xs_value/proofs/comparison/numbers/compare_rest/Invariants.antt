use Rattle.std.proofs.Common.{◌≡◌, drop, Ok}
use Rattle.xs_value.specs.Comparison.{by_number, some}
use Rattle.xs_value.specs.steps.Operands.{node_numbers}
use Rattle.xs_value.proofs.comparison.numbers.compare_rest.Given as goal

abbrev pub invariant-loop-node : goal.invariant-loop-node
invariant-loop-node l =
    some (λ x. by_number l.op x (Ok l.y)) (node_numbers l.tree (drop l.node-index l.nodes)) ≡ some (λ x. by_number l.op x (Ok l.y))
    (node_numbers l.tree l.nodes)
