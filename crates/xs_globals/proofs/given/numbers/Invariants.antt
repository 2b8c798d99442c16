use Rattle.std.proofs.Common.{◌≡◌, ◌++◌, length, map}
use Rattle.xs_globals.proofs.given.numbers.Given as goal

abbrev pub invariant-loop-place : goal.invariant-loop-place
invariant-loop-place l = l.numbers.items ++ map (λ p. p.2) l.left ≡ map (λ p. p.2) l.places

abbrev pub decreases-loop-place : goal.decreases-loop-place
decreases-loop-place l = length l.left
