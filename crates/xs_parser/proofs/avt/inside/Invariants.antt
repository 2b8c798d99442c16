use Rattle.std.proofs.Common.{◌≡◌, ◌+◌, None, length, option_map}
use Rattle.xs_parser.specs.Templates.{inside}
use Rattle.xs_parser.proofs.avt.inside.Given as goal

abbrev pub invariant-loop-b : goal.invariant-loop-b
invariant-loop-b l = record {
  count : option_map (λ k. l.n + k) (inside l.quote l.rest) ≡ inside None l.bytes;
  within : l.n + length l.rest ≡ length l.bytes;
}

abbrev pub decreases-loop-b : goal.decreases-loop-b
decreases-loop-b l = length l.rest
