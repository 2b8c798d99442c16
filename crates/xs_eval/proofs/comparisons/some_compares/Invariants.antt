use Rattle.std.proofs.Common.{◌≡◌, drop}
use Rattle.xs_eval.specs.steps.Operands.{some_compares}
use Rattle.xs_eval.proofs.comparisons.some_compares.Given as goal

abbrev pub invariant-loop-node : goal.invariant-loop-node
invariant-loop-node l = some_compares l.operator l.text l.tree (drop l.node-index l.nodes) ≡ some_compares l.operator l.text l.tree l.nodes
