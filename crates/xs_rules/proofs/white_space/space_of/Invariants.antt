use Rattle.std.proofs.Common.{◌≡◌, ◌++◌}
use Rattle.std.specs.List.{find}
use Rattle.xs_tree.specs.Record.{attributes}
use Rattle.xs_rules.specs.WhiteSpace.{is_space}
use Rattle.xs_rules.proofs.white_space.space_of.Given as goal

-- the first of those that are left is the first of all
abbrev pub invariant-loop-attribute : goal.invariant-loop-attribute
invariant-loop-attribute l =
    goal.iterator-loop-attribute.can_next l.attribute-iterator ×
    goal.iterator-loop-attribute.is_finite l.attribute-iterator ×
    (l.yielded ++ l.attribute-iterator ≡ attributes l.tree l.fn.node) ×
    (find (is_space l.tree) l.attribute-iterator ≡ find (is_space l.tree) (attributes l.tree l.fn.node))
