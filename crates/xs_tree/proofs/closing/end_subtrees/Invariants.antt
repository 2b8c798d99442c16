use Rattle.std.proofs.Common.{◌-◌}
use Rattle.xs_tree.proofs.ClosingLemmas.{IsWalk}
use Rattle.xs_tree.proofs.closing.end_subtrees.Given as goal

abbrev pub invariant-loop-node : goal.invariant-loop-node
invariant-loop-node l = IsWalk l.ancestor l.place l.initial.nodes (l.place - 1) l.nodes l.node

-- a parent comes before its node
abbrev pub decreases-loop-node : goal.decreases-loop-node
decreases-loop-node l = l.node
