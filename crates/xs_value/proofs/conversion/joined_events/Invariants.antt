use Rattle.std.proofs.Common.{◌≡◌, ◌++◌, drop}
use Rattle.std.specs.String.{string_bytes}
use Rattle.xs_value.specs.Conversion.{fragment_text}
use Rattle.xs_value.proofs.conversion.joined_events.Given as goal

abbrev pub invariant-loop-event : goal.invariant-loop-event
invariant-loop-event l = string_bytes l.text ++ fragment_text (drop l.event-index l.events) ≡ fragment_text l.events
