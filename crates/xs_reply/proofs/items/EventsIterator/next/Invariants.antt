use Rattle.std.proofs.Common.{◌≡◌, length}
use Rattle.xs_record.specs.Segment.{joined}
use Rattle.xs_reply.specs.Items.{events_in}
use Rattle.xs_reply.proofs.items.EventsIterator.next.Given as goal

abbrev pub invariant-loop-segment : goal.invariant-loop-segment
invariant-loop-segment l = events_in (joined l.self-inside.left) ≡ events_in (joined l.initial.self-inside.left)

abbrev pub decreases-loop-segment : goal.decreases-loop-segment
decreases-loop-segment l = length l.self-inside.left
