use Rattle.std.proofs.Common.{◌≡◌, ◌++◌, length, take}
use Rattle.std.specs.Str.{IsUtf8}
use Rattle.xs_result_lines.specs.Bindings.{attributes_in}
use Rattle.xs_result_lines.specs.Lines.{bytes_of}
use Rattle.xs_result_lines.specs.steps.InForce.{own_lines}
use Rattle.xs_result_lines.proofs.name_lines.append_attributes.Given as goal

-- the bytes so far, and those of the rest
abbrev pub invariant-loop-event : goal.invariant-loop-event
invariant-loop-event l = record {
  whole : l.out.items ++ bytes_of (own_lines (attributes_in l.rest)) ≡ l.initial.out.items ++ bytes_of (own_lines (attributes_in l.initial.rest));
  front : take (length l.initial.out.items) l.out.items ≡ l.initial.out.items;
  utf8 : IsUtf8 l.initial.out.items → IsUtf8 l.out.items;
}

abbrev pub decreases-loop-event : goal.decreases-loop-event
decreases-loop-event l = length l.rest
