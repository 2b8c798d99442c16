use Rattle.std.proofs.Common.{◌≡◌, ◌++◌, length, string_bytes}
use Rattle.std.specs.Str.{IsAscii}
use Rattle.xs_numbering.specs.Numerals.{grouped}
use Rattle.xs_numbering.proofs.numerals.append_grouped.Given as goal

-- what was made, with the rest in groups, is the whole
abbrev pub invariant-loop-digit : goal.invariant-loop-digit
invariant-loop-digit l = record {
  whole : string_bytes l.out ++ grouped l.separator l.size l.rest ≡ string_bytes l.initial.out ++ grouped l.separator l.size l.digits;
  ascii : IsAscii l.rest;
}

abbrev pub decreases-loop-digit : goal.decreases-loop-digit
decreases-loop-digit l = length l.rest
