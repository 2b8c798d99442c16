use Rattle.std.proofs.Common.{◌≡◌, ◌<◌}
use Rattle.xs_record.specs.Segment.{items_of, joined}
use Rattle.xs_profile.specs.Counts.{site_at}
use Rattle.xs_profile.specs.Sites.{sites_in}
use Rattle.xs_profile.proofs.search.site_at.Given as goal

-- what is looked for is the tick of this number among those that are left
abbrev pub invariant-loop-segment : goal.invariant-loop-segment
invariant-loop-segment l = record {
  can : goal.iterator-loop-segment.can_next l.segment-iterator;
  ends : goal.iterator-loop-segment.is_finite l.segment-iterator;
  some : 0 < l.left;
  same : site_at l.left (sites_in (joined l.segment-iterator)) ≡ site_at l.n (sites_in (items_of l.items));
}
