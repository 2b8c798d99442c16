use Rattle.std.proofs.Common.{◌≡◌, ◌+◌, ◌≤◌, ◌++◌, length}
use Rattle.std.specs.String.{string_bytes}
use Rattle.xs_body_spec.specs.Making.{content_text, texts_outside}
use Rattle.xs_body.proofs.contents.joined_text.Given as goal

-- what is there, and the texts of what is left, are the whole
abbrev pub invariant-loop-event : goal.invariant-loop-event
invariant-loop-event l =
    (string_bytes l.text ++ texts_outside l.left l.depth ≡ content_text l.events) × (l.depth + length l.left ≤ length l.events)

abbrev pub decreases-loop-event : goal.decreases-loop-event
decreases-loop-event l = length l.left
