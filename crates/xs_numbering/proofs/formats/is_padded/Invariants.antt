use Rattle.std.proofs.Common.{◌≡◌, length}
use Rattle.xs_numbering.specs.Formats.{is_padded}
use Rattle.xs_numbering.proofs.formats.is_padded.Given as goal

abbrev pub invariant-loop-digit : goal.invariant-loop-digit
invariant-loop-digit l = is_padded l.rest ≡ is_padded l.token

abbrev pub decreases-loop-digit : goal.decreases-loop-digit
decreases-loop-digit l = length l.rest
