use Rattle.std.proofs.Common.{◌≡◌, ℕ, ◌<◌, false, get_or}
use Rattle.xs_num.specs.Text.{is_point}
use Rattle.xs_num.proofs.reading.split_at_point.Given as goal

abbrev pub invariant-loop-i : goal.invariant-loop-i
invariant-loop-i l = (k : ℕ) → k < l.i → is_point (get_or l.numeral k 0) ≡ false
