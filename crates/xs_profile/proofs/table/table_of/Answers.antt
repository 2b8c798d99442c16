use Rattle.std.proofs.Common.{List, ap, arith}
use Rattle.xs_record.specs.Segment.{joined}
use Rattle.xs_trace.specs.declared.item.Site.{Site}
use Rattle.xs_profile.specs.Counts.{ticks_at}
use Rattle.xs_profile.specs.Sites.{sites_in}
use Rattle.xs_profile.proofs.SiteLemmas.{left-sites}
use Rattle.xs_profile.proofs.TickLemmas.{ticks-joined}
use Rattle.xs_profile.proofs.table.table_of.Goals as goal

pub loop-segment-preserved : goal.loop-segment-preserved
loop-segment-preserved c =
    let segment = c.in-Some.segment.now in
    let left = c.loop-segment.segment-iterator in
    record {
      can = tt;
      ends = tt;
      ticks = λ s.
          let taken = ap (λ (ps : List Site). ticks_at ps s) (left-sites segment left c.next.new.self c.in-Some.ensures.steps) in
          let parts = ticks-joined s (sites_in segment) (sites_in (joined c.next.new.self)) in
          let before = c.loop-segment.invariant.ticks s in
          let added = c.in_ok-add_segment.ensures s in
          omega (arith, taken, parts, before, added);
    }
