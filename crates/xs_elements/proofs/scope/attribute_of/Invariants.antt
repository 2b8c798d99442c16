use Rattle.std.proofs.Common.{◌≡◌, ◌++◌}
use Rattle.std.specs.List.{find}
use Rattle.xs_elements.specs.Nodes.{attribute_of, bears}
use Rattle.xs_tree.specs.Record.{attributes}
use Rattle.xs_elements.proofs.scope.attribute_of.Given as goal

-- the first of those that are left is the first of all
abbrev pub invariant-loop-attribute : goal.invariant-loop-attribute
invariant-loop-attribute l =
    goal.iterator-loop-attribute.can_next l.attribute-iterator ×
    goal.iterator-loop-attribute.is_finite l.attribute-iterator ×
    (l.yielded ++ l.attribute-iterator ≡ attributes l.tree l.fn.n) ×
    (find (bears l.tree l.uri l.local) l.attribute-iterator ≡ attribute_of l.tree l.fn.n l.uri l.local)
