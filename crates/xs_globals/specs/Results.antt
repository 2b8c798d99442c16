-- What settling all globals comes to.
use Rattle.std.specs.Prelude.{Option, Some, None}
use Rattle.xs_trace.specs.declared.item.Spot.{Spot}
use Rattle.xs_body_spec.specs.Globals.{Table, settled, ended}
use Rattle.xs_body_spec.specs.Globals as globals
use Rattle.xs_globals.specs.declared.settled.Settled.{Settled}

-- its table, and whether it goes on with that or has ended
abbrev pub reported_in : Settled → Table
reported_in z = record { values = z.values.items; says = z.says.items; ticks = z.ticks; thrown = z.thrown }

abbrev pub settled_by : Option Spot → Table → globals.Settled
settled_by None t = settled t
settled_by (Some s) t = ended t s

abbrev pub settled_of : Settled → globals.Settled
settled_of z = settled_by z.end (reported_in z)
