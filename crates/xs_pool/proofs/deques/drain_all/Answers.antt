use Rattle.std.proofs.Common.{arith, ap, ◌≡◌, subst}
use Rattle.std.specs.List.{All}
use Rattle.xs_core.specs.Good.{total}
use Rattle.xs_core.proofs.SumLemmas.{total-push}
use Rattle.xs_pool.specs.Owners.{all_given, all_taken, given_of, parts_of, taken_of}
use Rattle.xs_pool.specs.Rule.{all_parts}
use Rattle.xs_pool.proofs.ListLemmas.{each-before}
use Rattle.xs_pool.proofs.deques.drain_all.Goals as goal

pub loop-owner-preserved : goal.loop-owner-preserved
loop-owner-preserved g c =
    let i = c.loop-owner.invariant in
    let e = c.in-Some.ensures.items in
    let os = c.pop.new.self.items in
    let o = c.in-Some.owner in
    record {
      parts = each-before (λ j x. parts_of x ≡ all_parts) os o (subst (All (λ x. parts_of x ≡ all_parts)) e i.parts);
      left = c.drain.ensures.left;
      all = λ h.
          let a = i.all h in
          let b = ap (all_given h) e in
          let d = ap (all_taken h) e in
          let p = total-push (λ x. total h (given_of x)) os o in
          let q = total-push (λ x. total h (taken_of x)) os o in
          let f = c.in_ok-drain.ensures.all h in
          omega arith;
    }
