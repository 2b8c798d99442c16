use Rattle.std.proofs.Common.{◌≡◌, drop}
use Rattle.xs_result_lines.specs.steps.Pending.{is_clear, lent}
use Rattle.xs_result_lines.proofs.lent.is_unique.Given as goal

-- the rest decides
abbrev pub invariant-loop-later : goal.invariant-loop-later
invariant-loop-later l = is_clear l.event (lent (drop l.later-index l.behind)) ≡ is_clear l.event (lent l.behind)
