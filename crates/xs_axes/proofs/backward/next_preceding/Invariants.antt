use Rattle.std.proofs.Common.{◌≡◌, ◌≤◌}
use Rattle.xs_tree.specs.Axis.{is_preceding}
use Rattle.xs_axes.specs.Walks.{passing_before}
use Rattle.xs_axes.proofs.backward.next_preceding.Given as goal

-- what was passed does not precede the node
abbrev pub invariant-loop-before : goal.invariant-loop-before
invariant-loop-before l =
    (l.before ≤ l.fn.before) × (passing_before (is_preceding l.tree l.node) l.fn.before ≡ passing_before (is_preceding l.tree l.node) l.before)

abbrev pub decreases-loop-before : goal.decreases-loop-before
decreases-loop-before l = l.before
