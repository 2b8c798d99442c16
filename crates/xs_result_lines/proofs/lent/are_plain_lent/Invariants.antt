use Rattle.std.proofs.Common.{◌≡◌, ◌++◌, drop}
use Rattle.xs_result_lines.specs.Bindings.{outermost}
use Rattle.xs_result_lines.specs.steps.InForce.{are_plain}
use Rattle.xs_result_lines.specs.steps.Pending.{lent}
use Rattle.xs_result_lines.proofs.lent.are_plain_lent.Given as goal

-- the rest decides
abbrev pub invariant-loop-event : goal.invariant-loop-event
invariant-loop-event l = are_plain (l.scope ++ outermost) (lent (drop l.event-index l.added)) ≡ are_plain (l.scope ++ outermost) (lent l.added)
