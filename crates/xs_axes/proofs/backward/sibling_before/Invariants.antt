use Rattle.std.proofs.Common.{◌≡◌, ◌<◌, ◌≤◌, ◌+◌}
use Rattle.xs_tree.specs.Record.{is_child}
use Rattle.xs_axes.specs.Walks.{passing_before}
use Rattle.xs_axes.proofs.backward.sibling_before.Given as goal

-- what lies after the node reached, and before the child, is no child of the parent
abbrev pub invariant-loop-parent : goal.invariant-loop-parent
invariant-loop-parent l =
    (l.parent ≤ l.node) × (l.node < l.fn.before) ×
    (passing_before (is_child l.tree l.parent) l.fn.before ≡ passing_before (is_child l.tree l.parent) (l.node + 1))

abbrev pub decreases-loop-parent : goal.decreases-loop-parent
decreases-loop-parent l = l.node
