use Rattle.std.proofs.Common.{◌≡◌, cond, nat_lt}
use Rattle.xs_trace.specs.declared.item.Site.{Site}
use Rattle.xs_profile.specs.steps.Table.{AreBefore, AreInOrder, table_ticks, ticks_of}
use Rattle.xs_profile.proofs.table.Table.counts.Given as goal

-- the counts of the modules before this one, in order
abbrev pub invariant-loop-lines : goal.invariant-loop-lines
invariant-loop-lines l = record {
  number : l.number ≡ l.lines-index;
  in_order : AreInOrder l.counts.items;
  before : AreBefore l.counts.items (record { «module» = l.number; line = 0 });
  each : (s : Site) → ticks_of l.counts.items s ≡ cond (nat_lt s.«module» l.number) (table_ticks l.self.modules.items s) 0;
}
