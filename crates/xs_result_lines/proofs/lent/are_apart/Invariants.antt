use Rattle.std.proofs.Common.{◌≡◌, drop}
use Rattle.xs_result_lines.specs.steps.Pending.{is_simple, lent}
use Rattle.xs_result_lines.proofs.lent.are_apart.Given as goal

-- the rest decides
abbrev pub invariant-loop-event : goal.invariant-loop-event
invariant-loop-event l = record {
  rest : is_simple (lent (drop l.event-index l.added)) ≡ is_simple (lent l.added);
  behind : l.behind ≡ l.event-index;
}
