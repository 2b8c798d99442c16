use Rattle.std.proofs.Common.{◌≡◌, length}
use Rattle.xs_pattern.specs.steps.Climb.{backwards, before_slashes}
use Rattle.xs_pattern.proofs.above.before_slashes.Given as goal

abbrev pub invariant-loop-step : goal.invariant-loop-step
invariant-loop-step l = before_slashes (backwards l.rest) ≡ before_slashes (backwards l.fn.steps)

abbrev pub decreases-loop-step : goal.decreases-loop-step
decreases-loop-step l = length l.rest
