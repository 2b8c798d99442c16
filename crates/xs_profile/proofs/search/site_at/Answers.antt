use Rattle.xs_record.specs.Segment.{items_of, joined}
use Rattle.xs_profile.specs.Sites.{sites_in}
use Rattle.xs_profile.proofs.SearchLemmas.{found-segment, pass-segment}
use Rattle.xs_profile.proofs.SiteLemmas.{left-sites}
use Rattle.xs_profile.proofs.search.site_at.Goals as goal

pub loop-segment-preserved : goal.loop-segment-preserved
loop-segment-preserved c =
    let segment = c.in-Some.segment.now in
    let left = c.loop-segment.segment-iterator in
    record {
      can = tt;
      ends = tt;
      some = c.in-Ok.ensures.0;
      same =
          pass-segment c.args.n c.loop-segment.left c.in-Ok.rest (sites_in segment) (sites_in (joined left)) (sites_in (joined c.next.new.self))
          (sites_in (items_of c.args.items.now)) (left-sites segment left c.next.new.self c.in-Some.ensures.steps) c.loop-segment.invariant.same
          c.in-Ok.ensures;
    }

pub returns-in-Err : goal.returns-in-Err
returns-in-Err c =
    let segment = c.in-Some.segment.now in
    let left = c.loop-segment.segment-iterator in
    found-segment c.args.n c.loop-segment.left c.in-Err.site (sites_in segment) (sites_in (joined left)) (sites_in (joined c.next.new.self))
    (sites_in (items_of c.args.items.now)) (left-sites segment left c.next.new.self c.in-Some.ensures.steps) c.loop-segment.invariant.same
    c.in-Err.ensures
