use Rattle.std.proofs.Common.{◌≡◌, length}
use Rattle.xs_result_lines.specs.Bindings.{spaces_in, with_spaces}
use Rattle.xs_result_lines.proofs.tag_bindings.TagBindings.with_spaces.Given as goal

-- what the rest makes of the bindings so far is the whole
abbrev pub invariant-loop-event : goal.invariant-loop-event
invariant-loop-event l = with_spaces l.bindings (spaces_in l.rest) ≡ with_spaces l.initial.bindings (spaces_in l.initial.rest)

abbrev pub decreases-loop-event : goal.decreases-loop-event
decreases-loop-event l = length l.rest
