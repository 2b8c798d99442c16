use Rattle.std.proofs.Common.{◌≡◌, ◌++◌, length, take}
use Rattle.std.specs.Str.{IsUtf8}
use Rattle.xs_result_lines.specs.Lines.{bytes_of, lines, open_after}
use Rattle.xs_result_lines.proofs.writer.PyxWriter.append.Given as goal

-- the bytes so far, and those of the rest; what will be open
abbrev pub invariant-loop-event : goal.invariant-loop-event
invariant-loop-event l = record {
  whole : l.out.items ++ bytes_of (lines l.self l.rest) ≡ l.initial.out.items ++ bytes_of (lines l.initial.self l.initial.rest);
  opened : open_after l.self l.rest ≡ open_after l.initial.self l.initial.rest;
  front : take (length l.initial.out.items) l.out.items ≡ l.initial.out.items;
  utf8 : IsUtf8 l.initial.out.items → IsUtf8 l.out.items;
}

abbrev pub decreases-loop-event : goal.decreases-loop-event
decreases-loop-event l = length l.rest
