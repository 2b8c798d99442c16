use Rattle.std.proofs.Common.{◌≡◌, ◌+◌}
use Rattle.xs_record.specs.Segment.{items_of, joined}
use Rattle.xs_trace.specs.declared.item.Site.{Site}
use Rattle.xs_profile.specs.Counts.{ticks_at}
use Rattle.xs_profile.specs.Sites.{sites_in}
use Rattle.xs_profile.specs.steps.Table.{table_ticks}
use Rattle.xs_profile.proofs.table.table_of.Given as goal

-- the ticks in the table, with those of the segments that are left, are all
abbrev pub invariant-loop-segment : goal.invariant-loop-segment
invariant-loop-segment l = record {
  can : goal.iterator-loop-segment.can_next l.segment-iterator;
  ends : goal.iterator-loop-segment.is_finite l.segment-iterator;
  ticks : (s : Site) → table_ticks l.table.modules.items s + ticks_at (sites_in (joined l.segment-iterator)) s
      ≡ ticks_at (sites_in (items_of l.items)) s;
}
