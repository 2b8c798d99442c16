use Rattle.std.proofs.Common.{◌≡◌, ◌++◌, length, take}
use Rattle.xs_text.specs.Escapes.{escaped}
use Rattle.xs_text.proofs.escapes.append_escaped.Given as goal

abbrev pub invariant-loop-plain : goal.invariant-loop-plain
invariant-loop-plain l = record {
  whole : l.out.items ++ escaped l.rest ≡ l.initial.out.items ++ escaped l.text;
  front : take (length l.initial.out.items) l.out.items ≡ l.initial.out.items;
}

abbrev pub decreases-loop-plain : goal.decreases-loop-plain
decreases-loop-plain l = length l.rest
