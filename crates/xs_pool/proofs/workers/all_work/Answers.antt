use Rattle.std.proofs.Common.{List, [], ◌∷◌, ◌++◌, map, subst, arith, rules}
use Rattle.std.specs.List.{All}
use Rattle.crossbeam_deque.specs.Handles.{stealer_deque}
use Rattle.xs_pool.specs.declared.member.Member.{Member}
use Rattle.xs_pool.specs.Workers.{IsWorking}
use Rattle.xs_pool.proofs.ListLemmas.{all-back, all-front}
use Rattle.xs_pool.proofs.WorkedLemmas.{ok-of, worked-more}
use Rattle.xs_pool.proofs.workers.all_work.Goals as goal

pub join-others-requires-after_bounds : goal.join-others-requires-after_bounds
join-others-requires-after_bounds g c = λ κs o.
    let M : Type 0 = Member g.row.R-Task.Denot g.row.K.Denot in
    let r = c.args.crew.now.runner.now in
    let P : M → Type 0 = λ m. IsWorking (g.R.Runner.place_of r) (g.R.Runner.own r) g.K.Known.fits g.K.Known.waits c.args.crew.now.limits
    c.args.crew.now.count (map stealer_deque c.args.thieves.now) m in
    let all : All P (c.pop.new.self.items ++ c.in-Some.first ∷ []) =
    subst (λ (x : List M). All P x) c.in-Some.ensures.items c.requires.works in (
      (
        (
          search rules,
          search rules,
          search rules,
          search rules,
          search rules,
          c.requires.ready,
          c.requires.known,
          c.requires.few,
          all-front P c.pop.new.self.items (c.in-Some.first ∷ []) all,
        ),
        (search rules, search rules, search rules, search rules, search rules, search rules),
      ),
      (
        (
          c.requires.ready,
          c.requires.known,
          c.requires.few,
          all-back P c.pop.new.self.items (c.in-Some.first ∷ []) all 0 c.in-Some.first (omega arith),
        ),
        (search rules, search rules, search rules, search rules, search rules),
      ),
    )

pub returns : goal.returns
returns g c =
    let place = g.R.Runner.place_of c.args.crew.now.runner.now in
    let own = g.R.Runner.own c.args.crew.now.runner.now in
    record {
      worked = worked-more place own g.K.Known.fits g.K.Known.waits c.args.crew.now.limits c.args.crew.now.count (map stealer_deque c.args.thieves.now)
          c.pop.new.self.items c.in_ok-all.all.items c.push.new.self.items c.args.members.items c.in-Some.first c.in_ok-first.field-0
          (ok-of _ _ _ c.in_ok-all.was c.join-others.ensures.first) (ok-of _ _ _ c.in_ok-first.was c.join-others.ensures.second)
          c.in-Some.ensures.items c.in_ok-push.ensures.items;
    }
