use Rattle.std.proofs.Common.{◌≡◌, ◌++◌, length, take}
use Rattle.std.specs.Str.{IsUtf8}
use Rattle.xs_result_lines.specs.Lines.{bytes_of}
use Rattle.xs_result_lines.proofs.writer.append_lines.Given as goal

-- the bytes so far, and those of the rest
abbrev pub invariant-loop-line : goal.invariant-loop-line
invariant-loop-line l = record {
  whole : l.out.items ++ bytes_of l.rest ≡ l.initial.out.items ++ bytes_of l.initial.rest;
  front : take (length l.initial.out.items) l.out.items ≡ l.initial.out.items;
  utf8 : IsUtf8 l.initial.out.items → IsUtf8 l.out.items;
}

abbrev pub decreases-loop-line : goal.decreases-loop-line
decreases-loop-line l = length l.rest
