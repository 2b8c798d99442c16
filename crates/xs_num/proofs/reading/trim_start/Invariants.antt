use Rattle.std.proofs.Common.{◌≡◌, ℕ, ◌<◌, true, get_or}
use Rattle.xs_text.specs.WhiteSpace.{is_white_space}
use Rattle.xs_num.proofs.reading.trim_start.Given as goal

abbrev pub invariant-loop-i : goal.invariant-loop-i
invariant-loop-i l = (k : ℕ) → k < l.i → is_white_space (get_or l.text k 0) ≡ true
