use Rattle.std.proofs.Common.{◌+◌, map, vec_len}
use Rattle.xs_static.specs.Declarations.{declared_all}
use Rattle.xs_elements.specs.Nodes.{name_data}
use Rattle.xs_static.specs.steps.Search.{IsSearch}
use Rattle.xs_static.specs.steps.Uses.{left_in, uses_size}
use Rattle.xs_static.proofs.search.leads_back.Given as goal

abbrev pub invariant-loop-name : goal.invariant-loop-name
invariant-loop-name l =
    IsSearch (declared_all l.declarations) (map name_data l.declaration.sets.items) (name_data l.declaration.name) (left_in l.left)
    (map name_data l.todo.items)

-- a name leaves the work, and what it uses goes from the table to the work
abbrev pub decreases-loop-name : goal.decreases-loop-name
decreases-loop-name l = vec_len l.todo + uses_size l.left
