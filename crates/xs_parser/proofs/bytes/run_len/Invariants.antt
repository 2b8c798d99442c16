use Rattle.std.proofs.Common.{◌≡◌, ◌+◌, length}
use Rattle.std.specs.List.{prefix_len}
use Rattle.xs_parser.specs.Lexing.{passes}
use Rattle.xs_parser.proofs.bytes.run_len.Given as goal

abbrev pub invariant-loop-b : goal.invariant-loop-b
invariant-loop-b l = record {
  count : l.n + prefix_len (passes l.class) l.rest ≡ prefix_len (passes l.class) l.bytes;
  within : l.n + length l.rest ≡ length l.bytes;
}

abbrev pub decreases-loop-b : goal.decreases-loop-b
decreases-loop-b l = length l.rest
