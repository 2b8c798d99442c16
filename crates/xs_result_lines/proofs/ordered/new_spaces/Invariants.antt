use Rattle.std.proofs.Common.{◌≡◌, ◌++◌, drop}
use Rattle.std.specs.Prelude.{filter}
use Rattle.xs_result_lines.specs.Bindings.{declared, is_new, outermost, spaces_in}
use Rattle.xs_result_lines.specs.steps.Open.{bindings_of}
use Rattle.xs_result_lines.specs.steps.Pending.{lent}
use Rattle.xs_result_lines.proofs.ordered.new_spaces.Given as goal

-- those so far, and those of what is left
abbrev pub invariant-loop-event : goal.invariant-loop-event
invariant-loop-event l =
    bindings_of l.all.items ++ filter (is_new (l.scope ++ outermost)) (spaces_in (lent (drop l.event-index l.added)))
    ≡ declared (l.scope ++ outermost) (spaces_in (lent l.added))
