use Rattle.std.proofs.Common.{◌≡◌, ◌+◌, ◌==◌, ◌&&◌, cond, get_or, nat_lt}
use Rattle.xs_trace.specs.declared.item.Site.{Site}
use Rattle.xs_profile.specs.steps.Table.{AreBefore, AreInOrder, ticks_of}
use Rattle.xs_profile.proofs.table.add_counts.Given as goal

-- the counts of the lines before this one, after those that were there
abbrev pub invariant-loop-ticks : goal.invariant-loop-ticks
invariant-loop-ticks l = record {
  line : l.line ≡ l.ticks-index;
  in_order : AreInOrder l.counts.items;
  before : AreBefore l.counts.items (record { «module» = l.number; line = l.line });
  each : (s : Site) → ticks_of l.counts.items s
      ≡ ticks_of l.initial.counts.items s + cond (s.«module» == l.number && nat_lt s.line l.line) (get_or l.lines s.line 0) 0;
}
