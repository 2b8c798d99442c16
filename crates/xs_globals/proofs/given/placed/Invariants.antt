use Rattle.std.proofs.Common.{◌≡◌, ◌++◌, length}
use Rattle.xs_body_spec.specs.Globals.{placed}
use Rattle.xs_globals.proofs.given.placed.Given as goal

abbrev pub invariant-loop-declared : goal.invariant-loop-declared
invariant-loop-declared l = l.places.items ++ placed l.number l.left ≡ placed 0 l.globals

abbrev pub decreases-loop-declared : goal.decreases-loop-declared
decreases-loop-declared l = length l.left
