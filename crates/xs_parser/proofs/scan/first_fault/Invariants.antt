use Rattle.std.proofs.Common.{◌≡◌, length}
use Rattle.xs_parser.specs.Faults.{first_fault}
use Rattle.xs_parser.proofs.scan.first_fault.Given as goal

abbrev pub invariant-loop-placed : goal.invariant-loop-placed
invariant-loop-placed l = first_fault l.check l.scope.pairs.items l.rest ≡ first_fault l.check l.scope.pairs.items l.lexemes

abbrev pub decreases-loop-placed : goal.decreases-loop-placed
decreases-loop-placed l = length l.rest
