use Rattle.std.proofs.Common.{arith, ap, ◌≤◌, ◌<◌, ◌∙◌, List, sym, subst}
use Rattle.std.specs.List.{All}
use Rattle.std.proofs.lemmas.List.Elements.{All-append}
use Rattle.xs_core.specs.Good.{total}
use Rattle.xs_core.proofs.SumLemmas.{total-push}
use Rattle.xs_pool.specs.Workers.{last_of, most_of}
use Rattle.xs_pool.proofs.ListLemmas.{all-reverse, each-before, total-reverse}
use Rattle.xs_pool.proofs.LogLemmas.{above-not, above-so}
use Rattle.xs_pool.proofs.RunLemmas.{total-join}
use Rattle.xs_pool.proofs.finish.finish.Goals as goal

pub loop-turn-preserved : goal.loop-turn-preserved
loop-turn-preserved g c =
    let i = c.loop-turn.invariant in
    let t = c.in_ok-turn.ensures in
    let e = c.in-Some.ensures.items in
    let p = c.in_ok-append.ensures.items in
    let v = c.reverse.ensures.items in
    let ts = c.pop.new.self.items in
    let new = c.reverse.new.self.items in
    let born = c.in_ok-turn.turn.children.items in
    let q : last_of c.loop-turn.desk.share ≤ most_of c.loop-turn.desk.share =
    above-not _ _ c.above.result c.is_some.result c.above.ensures.above c.is_some.ensures c.if-is_some.false in
    let le : last_of c.loop-turn.desk.share ≤ c.args.crew.now.limits.ticks = let z = i.most in omega (arith, q, z) in
    record {
      share = t.kept ∙ i.share;
      most = t.most;
      left = subst (λ (l : List g.row.R-Task.Denot). All g.K.Known.waits l) (sym p) (All-append g.K.Known.waits ts new
          (each-before (λ j x. g.K.Known.waits x) ts c.in-Some.task (subst (λ (l : List g.row.R-Task.Denot). All g.K.Known.waits l) e i.left))
          (subst (λ (l : List g.row.R-Task.Denot). All g.K.Known.waits l) (sym v) (all-reverse g.K.Known.waits born t.children)));
      log = t.log;
      tally = λ h.
          let a = i.tally h in
          let b = t.run h in
          let d = t.left h in
          let k = ap (λ (l : List g.row.R-Task.Denot). total h l) e in
          let m = total-push h ts c.in-Some.task in
          let n = ap (λ (l : List g.row.R-Task.Denot). total h l) p in
          let o = total-join h ts new in
          let r = ap (λ (l : List g.row.R-Task.Denot). total h l) v in
          let s = total-reverse h born in
          omega (arith, a, b, d, k, m, n, o, r, s);
      spent = let a = t.spent in let b = i.spent in omega (arith, a, b);
      once = let a = t.once in let b = i.stopped le in let d = c.requires.stopped (i.before le) in omega (arith, a, b, d);
      before = λ m. i.before le;
      stopped = λ m. t.stopped m ∙ i.stopped le;
    }

pub returns-then-is_some-clause-done : goal.returns-then-is_some-clause-done
returns-then-is_some-clause-done g c le _ =
    let q : most_of c.loop-turn.desk.share < last_of c.loop-turn.desk.share =
    above-so _ _ c.above.result c.is_some.result c.above.ensures.above c.is_some.ensures c.if-is_some.true in
    let z = c.loop-turn.invariant.most in
    absurd (omega (arith, q, z, le))

pub returns-then-is_above-clause-done : goal.returns-then-is_above-clause-done
returns-then-is_above-clause-done g c le all =
    absurd (c.is_above.ensures.above c.if-is_above.true
    (λ k d lt. let a = all k d lt in let b = c.requires.others k d lt in omega (arith, a, b)))
