use Rattle.std.proofs.Common.{◌≡◌, length}
use Rattle.xs_text.specs.Escapes.{escaped}
use Rattle.xs_result_lines.proofs.plain_text.is_printed.Given as goal

-- the rest decides
abbrev pub invariant-loop-byte : goal.invariant-loop-byte
invariant-loop-byte l = escaped l.rest ≡ l.rest → escaped l.initial.rest ≡ l.initial.rest

abbrev pub decreases-loop-byte : goal.decreases-loop-byte
decreases-loop-byte l = length l.rest
