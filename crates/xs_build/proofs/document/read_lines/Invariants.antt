use Rattle.std.proofs.Common.{◌≡◌, ◌≤◌, ◌+◌, length}
use Rattle.xs_pyx.specs.Row.{rows_of}
use Rattle.xs_pyx.specs.Views.{bytes_left}
use Rattle.xs_build.specs.steps.Rest.{left}
use Rattle.xs_build.specs.steps.Invariant.{IsGood}
use Rattle.xs_build.specs.steps.State.{state, initial}
use Rattle.xs_build.proofs.document.read_lines.Given as goal

abbrev pub invariant-loop-builder : goal.invariant-loop-builder
invariant-loop-builder l = record {
  good : IsGood (state l.builder);
  same : left (state l.builder) (rows_of (bytes_left l.rest)) ≡ left initial (rows_of l.bytes);
  few : l.builder.line + length (bytes_left l.rest) ≤ 1 + length l.bytes;
}

abbrev pub decreases-loop-builder : goal.decreases-loop-builder
decreases-loop-builder l = length (bytes_left l.rest)
