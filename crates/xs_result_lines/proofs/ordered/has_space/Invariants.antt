use Rattle.std.proofs.Common.{◌≡◌, drop}
use Rattle.xs_result_lines.specs.steps.Ordered.{has_space}
use Rattle.xs_result_lines.specs.steps.Pending.{lent}
use Rattle.xs_result_lines.proofs.ordered.has_space.Given as goal

-- the rest decides
abbrev pub invariant-loop-event : goal.invariant-loop-event
invariant-loop-event l = has_space l.prefix l.uri (lent (drop l.event-index l.added)) ≡ has_space l.prefix l.uri (lent l.added)
