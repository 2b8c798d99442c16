use Rattle.std.proofs.Common.{◌≡◌, length}
use Rattle.xs_result_lines.specs.Bindings.{attributes_in}
use Rattle.xs_result_lines.specs.steps.Tags.{comes_to}
use Rattle.xs_result_lines.proofs.tag.bound_attributes.Given as goal

-- what it has in the end is the same
abbrev pub invariant-loop-event : goal.invariant-loop-event
invariant-loop-event l = comes_to l.tag (attributes_in l.rest) ≡ comes_to l.initial.tag (attributes_in l.initial.rest)

abbrev pub decreases-loop-event : goal.decreases-loop-event
decreases-loop-event l = length l.rest
