use Rattle.std.proofs.Common.{◌≡◌, ◌++◌, false, length, map}
use Rattle.xs_globals.proofs.given.none_begun.Given as goal

abbrev pub invariant-loop-declared : goal.invariant-loop-declared
invariant-loop-declared l = l.begun.items ++ map (λ g. false) l.left ≡ map (λ g. false) l.globals

abbrev pub decreases-loop-declared : goal.decreases-loop-declared
decreases-loop-declared l = length l.left
