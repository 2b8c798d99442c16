use Rattle.std.proofs.Common.{◌≡◌, map}
use Rattle.xs_result.specs.Building.{nothing, taken_all}
use Rattle.xs_result.specs.steps.Views.{state}
use Rattle.xs_result.proofs.events.take_all.Given as goal

-- what a builder has of the events that came
abbrev pub invariant-loop-event : goal.invariant-loop-event
invariant-loop-event g l = state l.builder ≡ taken_all nothing (map (λ e. e.now) l.yielded)
