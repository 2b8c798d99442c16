use Rattle.std.proofs.Common.{◌≡◌, List, [], ◌∷◌, ◌++◌, length, map, ap, subst, arith}
use Rattle.std.specs.List.{All}
use Rattle.crossbeam_deque.specs.Handles.{stealer_deque}
use Rattle.xs_pool.specs.declared.member.Member.{Member}
use Rattle.xs_pool.specs.Workers.{IsWorking}
use Rattle.xs_pool.proofs.ListLemmas.{all-back, length-more}
use Rattle.xs_pool.proofs.WorkedLemmas.{worked-more, worked-none}
use Rattle.xs_pool.proofs.workers.work_alone.Goals as goal

pub work-requires-clause-works : goal.work-requires-clause-works
work-requires-clause-works g c = λ κs o.
    let M : Type 0 = Member g.row.R-Task.Denot g.row.K.Denot in
    let r = c.args.crew.now.runner.now in
    let P : M → Type 0 = λ m. IsWorking (g.R.Runner.place_of r) (g.R.Runner.own r) g.K.Known.fits g.K.Known.waits c.args.crew.now.limits
    c.args.crew.now.count (map stealer_deque c.args.thieves.now) m in
    let all : All P (c.pop.new.self.items ++ c.in-Some.member ∷ []) =
    subst (λ (x : List M). All P x) c.in-Some.ensures.items c.requires.works in
    all-back P c.pop.new.self.items (c.in-Some.member ∷ []) all 0 c.in-Some.member (omega arith)

pub returns : goal.returns
returns g c =
    let place = g.R.Runner.place_of c.args.crew.now.runner.now in
    let own = g.R.Runner.own c.args.crew.now.runner.now in
    let l = c.args.crew.now.limits in
    let count = c.args.crew.now.count in
    let ids = map stealer_deque c.args.thieves.now in
    let before = c.pop.new.self.items in
    let none : length before ≡ 0 =
    let a = ap length c.in-Some.ensures.items in let b = length-more before c.in-Some.member in let d = c.requires.one.1 in omega (arith, a, b, d) in
    record {
      worked = worked-more place own g.K.Known.fits g.K.Known.waits l count ids before before c.push.new.self.items c.args.members.items c.in-Some.member
          c.in_ok-after.after (worked-none place own g.K.Known.fits g.K.Known.waits l count ids before none)
          (c.in_ok-after.ensures.works, c.in_ok-after.ensures.same) c.in-Some.ensures.items c.in_ok-push.ensures.items;
    }
