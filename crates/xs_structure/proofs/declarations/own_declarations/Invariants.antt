use Rattle.std.proofs.Common.{◌≡◌, filter}
use Rattle.std.specs.List.{range_with_len}
use Rattle.xs_structure.specs.Order.{is_declaration}
use Rattle.xs_structure.proofs.declarations.own_declarations.Given as goal

-- those of the places that were passed
abbrev pub invariant-loop-place : goal.invariant-loop-place
invariant-loop-place l = l.found.items ≡ filter (is_declaration l.tree) (range_with_len 0 l.place)
