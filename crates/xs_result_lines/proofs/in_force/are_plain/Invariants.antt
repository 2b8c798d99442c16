use Rattle.std.proofs.Common.{◌≡◌, ◌++◌, length}
use Rattle.xs_result_lines.specs.Bindings.{outermost}
use Rattle.xs_result_lines.specs.steps.InForce.{are_plain}
use Rattle.xs_result_lines.proofs.in_force.are_plain.Given as goal

-- the rest decides
abbrev pub invariant-loop-event : goal.invariant-loop-event
invariant-loop-event l = are_plain (l.scope ++ outermost) l.rest ≡ are_plain (l.scope ++ outermost) l.initial.rest

abbrev pub decreases-loop-event : goal.decreases-loop-event
decreases-loop-event l = length l.rest
