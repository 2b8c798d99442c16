use Rattle.std.proofs.Common.{◌≡◌, ℕ, ◌<◌, ◌≤◌, true, length, get_or}
use Rattle.xs_text.specs.WhiteSpace.{is_white_space}
use Rattle.xs_num.proofs.reading.trim_end.Given as goal

abbrev pub invariant-loop-end : goal.invariant-loop-end
invariant-loop-end l =
    (l.end ≤ length l.text) × ((k : ℕ) → l.end ≤ k → k < length l.text → is_white_space (get_or l.text k 0) ≡ true)

abbrev pub decreases-loop-end : goal.decreases-loop-end
decreases-loop-end l = l.end
