-- The trace of a small evaluation.
use Rattle.std.specs.Prelude.{ℕ, [], ◌∷◌, Option, Some, None}
use Rattle.xs_trace.specs.Mark.{Tick, Put, Hole, Trace}
use Rattle.xs_trace.specs.declared.event.Event.{Event}
use Rattle.xs_trace.specs.declared.item.Site.{Site}

-- a hole, where there is a task
abbrev pub hole_for : Option ℕ → Trace ℕ
hole_for None = []
hole_for (Some k) = Hole k ∷ []

-- a tick, an event, and a hole where there is a task
abbrev pub tiny : Site → Event → Option ℕ → Trace ℕ
tiny p e k = Tick p ∷ Put e ∷ hole_for k
