use Rattle.xs_pool.specs.declared.member.Member.{Member}
use Rattle.xs_pool.proofs.ListLemmas.{one-moved, some-moved}
use Rattle.xs_pool.proofs.gather.part.Goals as goal

pub loop-member-preserved : goal.loop-member-preserved
loop-member-preserved g c =
    let i = c.loop-member.invariant in
    let e = c.in-Some.ensures.items in
    let xs = c.pop.new.self.items in
    let ys = c.loop-member.members.items in
    let x = c.in-Some.member in
    record {
      owners = one-moved (λ (m : Member g.row.T.Denot g.row.K.Denot). m.deque) _ _ xs ys x _ i.owners e c.in_ok-push.ensures.items;
      rows = one-moved (λ (m : Member g.row.T.Denot g.row.K.Denot). m.rights) _ _ xs ys x _ i.rows e c.in_ok-push-2.ensures.items;
      desks = one-moved (λ (m : Member g.row.T.Denot g.row.K.Denot). m.desk) _ _ xs ys x _ i.desks e c.in_ok-push-3.ensures.items;
      logs = one-moved (λ (m : Member g.row.T.Denot g.row.K.Denot). m.log) _ _ xs ys x _ i.logs e c.in_ok-push-4.ensures.items;
      kept = some-moved (λ (m : Member g.row.T.Denot g.row.K.Denot). m.kept.items) _ _ xs ys x _ i.kept e c.in_ok-append.ensures.items;
    }
