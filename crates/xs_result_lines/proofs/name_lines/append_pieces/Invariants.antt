use Rattle.std.proofs.Common.{◌≡◌, ◌++◌, drop, length, take}
use Rattle.std.specs.Str.{IsUtf8}
use Rattle.xs_text.specs.Escapes.{escaped}
use Rattle.xs_result_lines.specs.steps.Pending.{joined}
use Rattle.xs_result_lines.proofs.name_lines.append_pieces.Given as goal

-- the bytes so far, and those of the rest
abbrev pub invariant-loop-text : goal.invariant-loop-text
invariant-loop-text l = record {
  whole : l.out.items ++ escaped (joined (drop l.text-index l.texts)) ≡ l.initial.out.items ++ escaped (joined l.texts);
  front : take (length l.initial.out.items) l.out.items ≡ l.initial.out.items;
  utf8 : IsUtf8 l.initial.out.items → IsUtf8 l.out.items;
}
