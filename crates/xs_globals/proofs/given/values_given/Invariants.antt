use Rattle.std.proofs.Common.{◌≡◌, ◌++◌, length, map}
use Rattle.xs_body_spec.specs.Globals.{value_given}
use Rattle.xs_globals.proofs.given.values_given.Given as goal

abbrev pub invariant-loop-declared : goal.invariant-loop-declared
invariant-loop-declared l = l.values.items ++ map (value_given l.given) l.left ≡ map (value_given l.given) l.globals

abbrev pub decreases-loop-declared : goal.decreases-loop-declared
decreases-loop-declared l = length l.left
