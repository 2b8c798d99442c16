-- What is known of a trace that was cut.
use Rattle.std.specs.Prelude.{[], ◌∷◌, ◌++◌}
use Rattle.xs_trace.specs.Mark.{Tick, Put, Stop, Need, Trace}
use Rattle.xs_trace.specs.Cut.{End, Whole, Fault, Needs, Spent, Full, Cut}
use Rattle.xs_trace.specs.declared.event.Event.TheVariants as event

-- The mark that made an end. Of an event that was too many only that it is one matters.
abbrev pub end_marks : {H : Type 0} → End → Trace H
end_marks Whole = []
end_marks (Fault f p) = Stop f p ∷ []
end_marks (Needs g p) = Need g p ∷ []
end_marks (Spent p) = Tick p ∷ []
end_marks (Full p) = Put event.End ∷ []

-- the marks that passed, and the one that follows them
abbrev pub known : {H : Type 0} → Cut H → Trace H
known c = c.passed ++ end_marks c.end
