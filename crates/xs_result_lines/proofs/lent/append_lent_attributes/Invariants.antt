use Rattle.std.proofs.Common.{◌≡◌, ◌++◌, drop, length, take}
use Rattle.std.specs.Str.{IsUtf8}
use Rattle.xs_result_lines.specs.Bindings.{attributes_in}
use Rattle.xs_result_lines.specs.Lines.{bytes_of}
use Rattle.xs_result_lines.specs.steps.InForce.{own_lines}
use Rattle.xs_result_lines.specs.steps.Pending.{lent}
use Rattle.xs_result_lines.proofs.lent.append_lent_attributes.Given as goal

-- the bytes so far, and those of the rest
abbrev pub invariant-loop-event : goal.invariant-loop-event
invariant-loop-event l = record {
  whole :
      l.out.items ++ bytes_of (own_lines (attributes_in (lent (drop l.event-index l.added))))
      ≡ l.initial.out.items ++ bytes_of (own_lines (attributes_in (lent l.added)));
  front : take (length l.initial.out.items) l.out.items ≡ l.initial.out.items;
  utf8 : IsUtf8 l.initial.out.items → IsUtf8 l.out.items;
}
