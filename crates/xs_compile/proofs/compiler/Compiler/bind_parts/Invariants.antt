use Rattle.std.proofs.Common.{◌≡◌, ◌++◌, drop, length, map, take}
use Rattle.xs_compile.specs.Parsed.{bound_part}
use Rattle.xs_compile.specs.Slots.{slot_at}
use Rattle.xs_compile.specs.steps.State.{modules_of}
use Rattle.xs_xpath.specs.AvtParts.{parts_from}
use Rattle.xs_compile.proofs.compiler.Compiler.bind_parts.Given as goal

-- the parts that were passed are bound, and those that are left are as they were
abbrev pub invariant-loop-i : goal.invariant-loop-i
invariant-loop-i l = record {
  same : parts_from l.parts.items
      ≡ map (bound_part (slot_at (modules_of l.self) (l.number, l.n))) (take l.i (parts_from l.fn.parts.items)) ++ drop l.i (parts_from l.fn.parts.items);
  size : length l.parts.items ≡ length l.fn.parts.items;
}
