use Rattle.std.proofs.Common.{arith, ap, ◌≡◌, ◌∙◌, List, refl, sym, subst}
use Rattle.std.specs.List.{All}
use Rattle.std.proofs.lemmas.List.Elements.{All-nil, All-push}
use Rattle.xs_core.specs.declared.place.Claim.{Claim}
use Rattle.xs_core.specs.Good.{total}
use Rattle.xs_pool.specs.Logs.{all_left, run_in, spent_in, stopped_in}
use Rattle.xs_pool.proofs.LogLemmas.{no-log}
use Rattle.xs_pool.proofs.begin.start.Goals as goal

pub run_task-requires-clause-worker : goal.run_task-requires-clause-worker
run_task-requires-clause-worker g c = λ κs o. c.requires.new.2.number

pub run_task-requires-clause-root : goal.run_task-requires-clause-root
run_task-requires-clause-root g c = λ κs o e. c.requires.first

pub run_task-requires-clause-most : goal.run_task-requires-clause-most
run_task-requires-clause-most g c = λ κs o. c.requires.new.2.desk.bound

pub run_task-requires-clause-open : goal.run_task-requires-clause-open
run_task-requires-clause-open g c = let a = c.requires.new.2.desk.last in omega (arith, a)

pub run_task-requires-clause-log : goal.run_task-requires-clause-log
run_task-requires-clause-log g c =
    let n = c.requires.new.2 in
    λ κs o. no-log (g.R.Runner.place_of c.args.crew.now.runner.now) (g.R.Runner.own c.args.crew.now.runner.now) g.K.Known.fits c.args.crew.now.limits
    c.args.crew.now.count c.args.member.log.pieces.items c.args.member.log.claims.items n.pieces n.claims

pub give-requires : goal.give-requires
give-requires g c = record {
  parts = c.requires.parts;
  kept = subst (λ (x : List g.row.R-Task.Denot). All g.K.Known.waits x) (sym c.requires.new.2.kept) (All-nil g.K.Known.waits);
  tasks = c.in_ok-turn.ensures.children;
}

pub returns : goal.returns
returns g c =
    let t = c.in_ok-turn.ensures in
    let v = c.in_ok-give.ensures in
    let s = c.give.ensures.same in
    record {
      new = λ id deques n. (
        record {
          number = n.number;
          last_in = s.1 ∙ n.last_in;
          parts = let a = v.parts in let b = n.parts in omega (arith, a, b);
          rights = n.row.rights;
          full = n.row.full;
          kept = v.kept;
          bound = t.most;
          log = t.log;
          mine = subst (All (λ (x : Claim). x.worker ≡ c.args.member.number)) (sym t.claimed)
              (All-push (λ (x : Claim). x.worker ≡ c.args.member.number) c.args.member.log.claims.items _
              (subst (All (λ (x : Claim). x.worker ≡ c.args.member.number)) (sym n.claims) (All-nil (λ (x : Claim). x.worker ≡ c.args.member.number))) refl);
          spent = let a = t.spent in let b = ap spent_in n.pieces in let d = n.desk.added in omega (arith, a, b, d);
          stopped = λ m. t.stopped m ∙ ap stopped_in n.pieces;
          once = let a = t.once in let b = ap stopped_in n.pieces in omega (arith, a, b);
        },
        t.kept ∙ n.desk.ledger,
      );
      number = refl;
      deque = s.0;
      tally = λ h.
          let n = c.requires.new.2 in
          let a = t.run h in
          let b = t.left h in
          let d = v.given h in
          let e = ap (λ (x : List g.row.R-Task.Denot). total h x) v.taken in
          let f = ap (run_in h) n.pieces in
          let i = ap (all_left h (g.R.Runner.own c.args.crew.now.runner.now) c.args.crew.now.limits) n.pieces in
          let j = ap (λ (x : List g.row.R-Task.Denot). total h x) n.given in
          let k = ap (λ (x : List g.row.R-Task.Denot). total h x) n.kept in
          let m = ap (λ (x : List g.row.R-Task.Denot). total h x) n.taken in
          let o = n.row.unused h in
          omega (arith, a, b, d, e, f, i, j, k, m, o);
    }
