use Rattle.std.proofs.Common.{◌+◌, vec_len}
use Rattle.std.specs.HashMap.{hash_map_len}
use Rattle.xs_static.specs.steps.Uses.{uses_size}
use Rattle.xs_static.proofs.ranks.left_in_order.Given as goal

-- a step is taken, and what a name uses goes from the table to the steps, with one step more for the name
abbrev pub decreases-loop-step : goal.decreases-loop-step
decreases-loop-step l = vec_len l.todo + (uses_size l.left + hash_map_len l.left.names)
