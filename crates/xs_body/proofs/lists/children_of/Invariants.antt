use Rattle.std.proofs.Common.{◌≡◌, ◌++◌}
use Rattle.xs_tree.specs.Record.{children}
use Rattle.xs_body.proofs.lists.children_of.Given as goal

-- the children that were found, and those that are left
abbrev pub invariant-loop-child : goal.invariant-loop-child
invariant-loop-child l =
    (goal.iterator-loop-child).can_next l.child-iterator ×
    (goal.iterator-loop-child).is_finite l.child-iterator ×
    (l.found.items ++ l.child-iterator ≡ children l.tree l.fn.node)
