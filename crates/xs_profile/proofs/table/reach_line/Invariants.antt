use Rattle.std.proofs.Common.{◌≡◌, ◌+◌, ◌-◌, ℕ, get_or}
use Rattle.std.specs.Vec.{vec_len}
use Rattle.xs_profile.proofs.table.reach_line.Given as goal

-- lines without ticks change none
abbrev pub invariant-loop-lines : goal.invariant-loop-lines
invariant-loop-lines l = (n : ℕ) → get_or l.lines.items n 0 ≡ get_or l.initial.lines.items n 0

abbrev pub decreases-loop-lines : goal.decreases-loop-lines
decreases-loop-lines l = (l.line + 1) - vec_len l.lines
