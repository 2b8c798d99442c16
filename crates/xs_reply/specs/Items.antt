-- What the items of a run give, one by one.
use Rattle.std.specs.Prelude.{List}
use Rattle.xs_body_spec.specs.Tasks.{Task}
use Rattle.xs_trace.specs.Kept.{marks_of}
use Rattle.xs_trace.specs.Mark.{events_of}
use Rattle.xs_trace.specs.declared.event.Event.{Event}
use Rattle.xs_trace.specs.declared.item.Item.{Item}

-- the events among some items
abbrev pub events_in : List Item → List Event
events_in items = events_of {H = Task} (marks_of items)
