use Rattle.xs_pool.specs.declared.log.Log.{Log}
use Rattle.xs_pool.proofs.ListLemmas.{some-moved}
use Rattle.xs_pool.proofs.log.Log.append_all.Goals as goal

pub loop-other-preserved : goal.loop-other-preserved
loop-other-preserved g c =
    let i = c.loop-other.invariant in
    let e = c.in-Some.ensures.items in
    let xs = c.pop.new.self.items in
    let ys = c.loop-other.others.items in
    let x = c.in-Some.other in
    record {
      pieces = some-moved (λ (m : Log g.row.T.Denot). m.pieces.items) _ _ xs ys x _ i.pieces e c.in_ok-append.ensures.items;
      claims = some-moved (λ (m : Log g.row.T.Denot). m.claims.items) _ _ xs ys x _ i.claims e c.in_ok-append-2.ensures.items;
    }
