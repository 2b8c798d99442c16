use Rattle.std.proofs.Common.{drop}
use Rattle.xs_value.proofs.RowLemmas.{Row}
use Rattle.xs_value.proofs.comparison.numbers.compare_with_nodes.Given as goal

-- what is left decides, and the furthest number represents those that were passed
abbrev pub invariant-loop-node : goal.invariant-loop-node
invariant-loop-node l = Row l.tree l.op l.x l.nodes (drop l.node-index l.nodes) l.furthest
