use Rattle.std.proofs.Common.{◌≡◌, drop}
use Rattle.xs_result_lines.specs.steps.Bound.{keep_own}
use Rattle.xs_result_lines.specs.steps.Pending.{lent}
use Rattle.xs_result_lines.proofs.tag_bindings.TagBindings.keep_own.Given as goal

-- the rest decides
abbrev pub invariant-loop-event : goal.invariant-loop-event
invariant-loop-event l = keep_own l.self (lent (drop l.event-index l.added)) ≡ keep_own l.self (lent l.added)
