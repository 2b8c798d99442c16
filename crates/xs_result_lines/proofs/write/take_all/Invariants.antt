use Rattle.std.proofs.Common.{◌≡◌, length, map, take}
use Rattle.std.specs.Str.{IsUtf8}
use Rattle.xs_result_lines.specs.Kept.{kept}
use Rattle.xs_result_lines.specs.Keeping.{IsTaken}
use Rattle.xs_result_lines.proofs.write.take_all.Given as goal

-- what is kept and the writer are those of the events that came
abbrev pub invariant-loop-event : goal.invariant-loop-event
invariant-loop-event g l = record {
  taken : IsTaken (kept l.pending) l.writer l.fn.out.items l.out.items (map (λ e. e.now) l.yielded);
  kept : take (length l.fn.out.items) l.out.items ≡ l.fn.out.items;
  utf8 : IsUtf8 l.fn.out.items → IsUtf8 l.out.items;
}
