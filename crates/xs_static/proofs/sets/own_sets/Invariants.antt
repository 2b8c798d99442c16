use Rattle.std.proofs.Common.{◌≡◌, ◌++◌, map}
use Rattle.std.specs.List.{flat_map}
use Rattle.xs_elements.specs.Nodes.{name_data}
use Rattle.xs_static.specs.Sets.{attribute_sets, own_sets}
use Rattle.xs_tree.specs.Record.{children}
use Rattle.xs_static.proofs.sets.own_sets.Given as goal

-- what was added, with what the children have that are left, is the whole
abbrev pub invariant-loop-child : goal.invariant-loop-child
invariant-loop-child l =
    goal.iterator-loop-child.can_next l.child-iterator ×
    goal.iterator-loop-child.is_finite l.child-iterator ×
    (l.yielded ++ l.child-iterator ≡ children l.tree l.fn.n) ×
    (map name_data l.sets.items ++ flat_map (attribute_sets l.tree) l.child-iterator ≡ own_sets l.tree l.fn.n)
