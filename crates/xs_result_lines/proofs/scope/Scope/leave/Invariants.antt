use Rattle.std.proofs.Common.{◌≡◌, drop}
use Rattle.xs_result_lines.proofs.scope.Scope.leave.Given as goal

-- so many are still to go
abbrev pub invariant-loop-left : goal.invariant-loop-left
invariant-loop-left l = drop l.left l.scope ≡ drop l.initial.left l.initial.scope

abbrev pub decreases-loop-left : goal.decreases-loop-left
decreases-loop-left l = l.left
