use Rattle.std.proofs.Common.{◌≡◌, drop}
use Rattle.xs_result.specs.Built.{is_empty}
use Rattle.xs_result_lines.specs.steps.Pending.{joined}
use Rattle.xs_result_lines.proofs.name_lines.are_empty.Given as goal

-- the rest decides
abbrev pub invariant-loop-text : goal.invariant-loop-text
invariant-loop-text l = is_empty (joined (drop l.text-index l.texts)) ≡ is_empty (joined l.texts)
