use Rattle.std.proofs.Common.{arith, ap, ◌≡◌, ◌≤◌, ◌∙◌, List, refl, sym, subst}
use Rattle.std.specs.List.{All}
use Rattle.std.proofs.lemmas.List.Elements.{All-push}
use Rattle.crossbeam_deque.specs.Handles.{stealer_deque}
use Rattle.xs_core.specs.declared.place.Claim.{Claim}
use Rattle.xs_core.specs.Good.{total}
use Rattle.xs_pool.specs.Workers.{last_of, most_of}
use Rattle.xs_pool.proofs.ListLemmas.{length-image}
use Rattle.xs_pool.proofs.LogLemmas.{above-not}
use Rattle.xs_pool.proofs.work.work.Goals as goal

pub loop-turn-init : goal.loop-turn-init
loop-turn-init g c =
    let w = c.requires.works in
    let n = length-image stealer_deque c.args.thieves.now in
    record {
      deque = refl;
      last_in = w.last_in;
      parts = let a = w.parts in omega (arith, a, n);
      rights = w.rights;
      full = w.full ∙ n;
      kept = w.kept;
      bound = w.bound;
      share = refl;
      log = w.log;
      mine = w.mine;
      tally = λ h. omega arith;
      spent = w.spent;
      stopped = w.stopped;
      once = w.once;
    }

pub loop-turn-preserved : goal.loop-turn-preserved
loop-turn-preserved g c =
    let i = c.loop-turn.invariant in
    let f = c.find.ensures in
    let t = c.in_ok-turn.ensures in
    let v = c.in_ok-give.ensures in
    let s = c.give.ensures.same in
    let q : last_of c.loop-turn.desk.share ≤ most_of c.loop-turn.desk.share =
    above-not _ _ c.above.result c.is_some.result c.above.ensures.above c.is_some.ensures c.if-is_some.false in
    let le : last_of c.loop-turn.desk.share ≤ c.args.crew.now.limits.ticks = let z = i.bound in omega (arith, q, z) in
    record {
      deque = s.0 ∙ f.same.0 ∙ i.deque;
      last_in = s.1 ∙ f.same.1 ∙ i.last_in;
      parts = let a = v.parts in let b = f.parts in let d = i.parts in omega (arith, a, b, d);
      rights = f.rights;
      full = f.count ∙ i.full;
      kept = v.kept;
      bound = t.most;
      share = t.kept ∙ i.share;
      log = t.log;
      mine = subst (All (λ (x : Claim). x.worker ≡ c.args.member.number)) (sym t.claimed)
          (All-push (λ (x : Claim). x.worker ≡ c.args.member.number) c.loop-turn.log.claims.items _ i.mine refl);
      tally = λ h.
          let a = i.tally h in
          let b = c.in-Some.ensures.taken h in
          let d = t.run h in
          let e = t.left h in
          let k = v.given h in
          let m = ap (λ (l : List g.row.R-Task.Denot). total h l) v.taken in
          let n = ap (λ (l : List g.row.R-Task.Denot). total h l) f.given in
          omega (arith, a, b, d, e, k, m, n);
      spent = let a = t.spent in let b = i.spent in omega (arith, a, b);
      stopped = λ m. t.stopped m ∙ i.stopped le;
      once = let a = t.once in let b = i.stopped le in omega (arith, a, b);
    }

pub returns-then-is_some : goal.returns-then-is_some
returns-then-is_some g c =
    let i = c.loop-turn.invariant in
    let n = length-image stealer_deque c.args.thieves.now in
    record {
      works = record {
        number = c.requires.works.number;
        last_in = i.last_in;
        parts = let a = i.parts in omega (arith, a, n);
        rights = i.rights;
        full = i.full ∙ sym n;
        kept = i.kept;
        bound = i.bound;
        log = i.log;
        mine = i.mine;
        spent = i.spent;
        stopped = i.stopped;
        once = i.once;
      };
      same = record { number = refl; deque = i.deque; share = i.share; tally = i.tally };
    }

pub returns-in_default : goal.returns-in_default
returns-in_default g c =
    let i = c.loop-turn.invariant in
    let f = c.find.ensures in
    let n = length-image stealer_deque c.args.thieves.now in
    record {
      works = record {
        number = c.requires.works.number;
        last_in = f.same.1 ∙ i.last_in;
        parts = let a = i.parts in let b = f.parts in omega (arith, a, b, n);
        rights = f.rights;
        full = f.count ∙ i.full ∙ sym n;
        kept = f.kept;
        bound = i.bound;
        log = i.log;
        mine = i.mine;
        spent = i.spent;
        stopped = i.stopped;
        once = i.once;
      };
      same = record {
        number = refl;
        deque = f.same.0 ∙ i.deque;
        share = i.share;
        tally = λ h.
            let a = i.tally h in
            let b = c.in_default.ensures.taken h in
            let m = ap (λ (l : List g.row.R-Task.Denot). total h l) f.given in
            omega (arith, a, b, m);
      };
    }
