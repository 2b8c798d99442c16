use Rattle.std.proofs.Common.{◌≡◌, ◌≤◌, length}
use Rattle.xs_parser.specs.Faults.{first_deep}
use Rattle.xs_parser.proofs.nesting.first_deep.Given as goal

abbrev pub invariant-loop-placed : goal.invariant-loop-placed
invariant-loop-placed l = record {
  same : first_deep l.rest l.brackets l.signs ≡ first_deep l.lexemes 0 0;
  brackets : l.brackets ≤ 64;
  signs : l.signs ≤ 64;
}

abbrev pub decreases-loop-placed : goal.decreases-loop-placed
decreases-loop-placed l = length l.rest
