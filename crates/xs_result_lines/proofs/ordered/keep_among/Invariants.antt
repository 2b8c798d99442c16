use Rattle.std.proofs.Common.{◌≡◌, drop}
use Rattle.xs_result_lines.specs.steps.Ordered.{keep_among}
use Rattle.xs_result_lines.specs.steps.Pending.{lent}
use Rattle.xs_result_lines.proofs.ordered.keep_among.Given as goal

-- the rest decides
abbrev pub invariant-loop-event : goal.invariant-loop-event
invariant-loop-event l = keep_among (lent l.added) (lent (drop l.event-index l.added)) ≡ keep_among (lent l.added) (lent l.added)
