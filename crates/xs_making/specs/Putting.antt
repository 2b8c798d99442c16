-- Events that are put at one instruction, in order.
use Rattle.std.specs.Prelude.{List, [], ◌∷◌, Result}
use Rattle.xs_trace.specs.Play.{IsStep, Reported, and_then, goes, put_at}
use Rattle.xs_trace.specs.State.{State}
use Rattle.xs_trace.specs.declared.event.Event.{Event}
use Rattle.xs_trace.specs.declared.item.Site.{Site}
use Rattle.xs_trace.specs.declared.recorder.Halt.{Halt}

abbrev pub events_steps : {H : Type 0} → Site → List Event → State H → Reported H
events_steps p [] s = goes s
events_steps p (e ∷ es) s = and_then (put_at p e s) (λ u m. events_steps p es m)

-- what a call answers that puts these events, and the state that it leaves
abbrev pub Puts : {H : Type 0} → Site → List Event → State H → Result (Unit {0}) Halt → State H → Type 0
Puts p es old result new = IsStep (events_steps p es old) result new
