use Rattle.std.proofs.Common.{◌≡◌, ℕ, ◌<◌, false, get_or}
use Rattle.xs_pyx.specs.Reading.{ends_name}
use Rattle.xs_pyx.proofs.read.find_space.Given as goal

-- no byte so far is a space
abbrev pub invariant-loop-place : goal.invariant-loop-place
invariant-loop-place l = (k : ℕ) → k < l.place → ends_name (get_or l.bytes k 0) ≡ false
