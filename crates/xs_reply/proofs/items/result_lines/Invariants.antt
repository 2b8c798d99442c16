use Rattle.std.proofs.Common.{◌≡◌, ◌<◌, ◌+◌, ◌^◌, ◌++◌, [], All, List, length}
use Rattle.xs_result_laws.specs.Events.{HasTexts}
use Rattle.xs_record.specs.Segment.{items_of, joined}
use Rattle.xs_trace.specs.declared.event.Event.{Event}
use Rattle.xs_result_lines.specs.Stream.{HasTaken}
use Rattle.xs_reply.specs.Items.{events_in}
use Rattle.xs_reply.proofs.items.result_lines.Given as goal

-- the events so far, which the stream took, and those among the items that are left
abbrev pub invariant-loop-segment : goal.invariant-loop-segment
invariant-loop-segment l = record {
  can : goal.iterator-loop-segment.can_next l.segment-iterator;
  ends : goal.iterator-loop-segment.is_finite l.segment-iterator;
  taken : (es : List Event) × HasTaken l.stream [] l.lines.items es
      × (es ++ events_in (joined l.segment-iterator) ≡ events_in (items_of l.items));
  texts : All HasTexts (events_in (joined l.segment-iterator)) → All HasTexts (events_in (items_of l.items));
  counted : length (events_in (items_of l.items)) ≡ l.count + length (events_in (joined l.segment-iterator));
  few : l.count < 2 ^ 64;
}
