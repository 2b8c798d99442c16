-- Events that are listed, as what was recorded of them.
use Rattle.std.specs.Prelude.{List, [], None, map}
use Rattle.xs_trace.specs.Mark.{Put}
use Rattle.xs_trace.specs.State.{State, Untimed, alone}
use Rattle.xs_trace.specs.declared.event.Event.{Event}

-- without limits
abbrev pub listed : {H : Type 0} → List Event → State H
listed es = record { reported = Untimed (map Put es); captures = []; at = None; room = None; left = None; shared = alone }
