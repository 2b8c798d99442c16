use Rattle.std.proofs.Common.{◌≡◌, map}
use Rattle.std.specs.Arc.{arc_value}
use Rattle.std.specs.List.{range_with_len}
use Rattle.xs_structure.specs.Scopes.{pairs_in}
use Rattle.xs_elements.specs.Nodes.{scope_at}
use Rattle.xs_structure.proofs.scopes.Scopes.of.Given as goal

-- the scopes of the nodes that were passed
abbrev pub invariant-loop-place : goal.invariant-loop-place
invariant-loop-place l = map (λ scope. pairs_in (arc_value scope)) l.of_nodes.items ≡ map (scope_at l.tree) (range_with_len 0 l.place)
