use Rattle.std.proofs.Common.{◌≡◌, drop}
use Rattle.xs_result_lines.specs.Bindings.{spaces_in, with_spaces}
use Rattle.xs_result_lines.specs.steps.Pending.{lent}
use Rattle.xs_result_lines.proofs.tag_bindings.TagBindings.with_lent_spaces.Given as goal

-- what the rest makes of the bindings so far is the whole
abbrev pub invariant-loop-event : goal.invariant-loop-event
invariant-loop-event l =
    with_spaces l.bindings (spaces_in (lent (drop l.event-index l.added))) ≡ with_spaces l.initial.bindings (spaces_in (lent l.added))
