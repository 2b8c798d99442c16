use Rattle.std.proofs.Common.{arith, map, slice_index_or, IfOk, subst, sym}
use Rattle.crossbeam_deque.specs.Handles.{stealer_deque}
use Rattle.xs_pool.specs.Workers.{IsSame, IsWorking}
use Rattle.xs_pool.specs.declared.member.Member.{Member}
use Rattle.xs_pool.proofs.WorkedLemmas.{if-ok, worked-all}
use Rattle.xs_pool.proofs.workers.others_work.Goals as goal

pub returns : goal.returns
returns g c =
    let place = g.R.Runner.place_of c.args.crew.now.runner.now in
    let own = g.R.Runner.own c.args.crew.now.runner.now in
    let l = c.args.crew.now.limits in
    let count = c.args.crew.now.count in
    let ids = map stealer_deque c.args.thieves.now in
    let rs = c.in_ok-results.results in
    let e = c.in_ok-results.ensures in
    record {
      worked = if-ok c.all_ok.result _ _ c.all_ok.ensures.all (λ ns all.
          worked-all place own g.K.Known.fits g.K.Known.waits l count ids c.args.members.items rs.items ns.items all
          (omega (arith, e.len, rs.ok.0, c.args.members.ok.0))
          (λ i j d lt.
          let x = (e.each i d lt).1 in
          subst (λ (y : Member g.row.R-Task.Denot g.row.K.Denot). IfOk (slice_index_or rs.items i d)
          (λ m. IsWorking place own g.K.Known.fits g.K.Known.waits l count ids m × IsSame own l y m)) (sym (x.job_is j)) x.call.met));
    }
