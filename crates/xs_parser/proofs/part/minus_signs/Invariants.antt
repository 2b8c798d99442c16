use Rattle.std.proofs.Common.{◌≡◌, ◌+◌, length}
use Rattle.xs_parser.specs.steps.Parts.{parts_of, signs_in}
use Rattle.xs_parser.proofs.part.minus_signs.Given as goal

abbrev pub invariant-loop-first : goal.invariant-loop-first
invariant-loop-first l = record {
  count : l.signs + signs_in (parts_of l.rest) ≡ signs_in (parts_of l.parts);
  within : l.signs + length l.rest ≡ length l.parts;
}

abbrev pub decreases-loop-first : goal.decreases-loop-first
decreases-loop-first l = length l.rest
