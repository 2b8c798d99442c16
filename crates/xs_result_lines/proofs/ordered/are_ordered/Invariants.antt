use Rattle.std.proofs.Common.{◌≡◌, drop}
use Rattle.xs_result_lines.specs.steps.Ordered.{are_ordered}
use Rattle.xs_result_lines.specs.steps.Pending.{lent}
use Rattle.xs_result_lines.proofs.ordered.are_ordered.Given as goal

-- the rest decides
abbrev pub invariant-loop-event : goal.invariant-loop-event
invariant-loop-event l = record {
  rest : are_ordered (lent (drop l.event-index l.added)) ≡ are_ordered (lent l.added);
  behind : l.behind ≡ l.event-index;
}
