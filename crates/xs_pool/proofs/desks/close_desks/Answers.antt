use Rattle.std.proofs.Common.{arith, rules, ap, ◌≡◌, ◌≤◌, [], List, ℕ, sym, subst, length}
use Rattle.std.specs.List.{All}
use Rattle.std.proofs.lemmas.List.Elements.{All-push}
use Rattle.xs_core.specs.Good.{total}
use Rattle.xs_core.proofs.SumLemmas.{total-push}
use Rattle.xs_ledger.specs.Additions.{ticks_above, last_answer}
use Rattle.xs_ledger.specs.Additions as ledger
use Rattle.xs_ledger.specs.Shares.{additions, ledger_id, own, weight, IsShareOf}
use Rattle.xs_ledger.specs.declared.ledger.Share.{Share}
use Rattle.xs_ledger.specs.declared.total.LedgerTotal.{LedgerTotal}
use Rattle.xs_pieces.specs.declared.piece.Desk.{Desk}
use Rattle.xs_pool.specs.Workers.{added_of, last_of, ledger_of, most_of}
use Rattle.xs_pool.proofs.ListLemmas.{each-before, each-last, length-more}
use Rattle.xs_pool.proofs.DeskLemmas.{last-within, sum-push}
use Rattle.xs_pool.proofs.desks.close_desks.Goals as goal

pub loop-desk-preserved : goal.loop-desk-preserved
loop-desk-preserved c =
    let i = c.loop-desk.invariant in
    let id = ledger_id c.args.ledger.now.value in
    let most = c.args.limit in
    let e = c.in-Some.ensures.items in
    let p = c.in_ok-push.ensures.items in
    let ds = c.pop.new.self.items in
    let d = c.in-Some.desk in
    let ss = c.loop-desk.shares.items in
    let s = c.into_share.result in
    let same = c.into_share.ensures.share in
    let rest = subst (λ (l : List (Desk LedgerTotal)). All (λ x. ledger_of x.share ≡ id) l) e i.rest in
    let limits = subst (λ (l : List (Desk LedgerTotal)). All (λ x. most_of x.share ≡ most) l) e i.limits in
    let of_ledger : ledger_of d.share ≡ id = each-last (λ j (x : Desk LedgerTotal). ledger_of x.share ≡ id) ds d rest in
    let bound : most_of d.share ≡ most = each-last (λ j (x : Desk LedgerTotal). most_of x.share ≡ most) ds d limits in
    let a0 = ap length e in
    let a1 = ap length p in
    let a2 = length-more ds d in
    let a3 = length-more ss s in
    record {
      count = let n = i.count in omega (arith, a0, a1, a2, a3, n);
      ids = subst (λ (l : List Share). All (IsShareOf id) l) (sym p) (All-push (IsShareOf id) ss s i.ids (subst (IsShareOf id) (sym same) of_ledger));
      rest = each-before (λ j (x : Desk LedgerTotal). ledger_of x.share ≡ id) ds d rest;
      limits = each-before (λ j (x : Desk LedgerTotal). most_of x.share ≡ most) ds d limits;
      sum =
          let a = i.sum in
          let b = ap (total (λ (x : Desk LedgerTotal). added_of x.share)) e in
          let k = total-push (λ (x : Desk LedgerTotal). added_of x.share) ds d in
          let m = ap (ledger.total own) p in
          let n = sum-push own ss s in
          let o = ap own same in
          omega (arith, a, b, k, m, n, o);
      above =
          let a = i.above in
          let m = ap (ledger.total (weight (ticks_above most))) p in
          let n = sum-push (weight (ticks_above most)) ss s in
          let o : weight (ticks_above most) s ≤ 1024 = subst (λ (y : ℕ). weight (ticks_above y) s ≤ 1024) bound c.into_share.ensures.above in
          omega (arith, a, m, n, o, a1, a3);
      answers = λ f g.
          let h = subst (λ (l : List Share). All (λ x. All (λ a. a.answer ≤ most) (additions x)) l) p f in
          let t = last-within most (additions s) (each-last (λ j (x : Share). All (λ a. a.answer ≤ most) (additions x)) ss s h) in
          let u : last_of d.share ≤ most = subst (λ (x : Share). last_answer (additions x) ≤ most) same t in
          i.answers (each-before (λ j (x : Share). All (λ a. a.answer ≤ most) (additions x)) ss s h)
          (subst (λ (l : List (Desk LedgerTotal)). All (λ x. last_of x.share ≤ most) l) (sym e)
          (All-push (λ (x : Desk LedgerTotal). last_of x.share ≤ most) ds d g u));
    }

pub returns : goal.returns
returns c =
    let i = c.loop-desk.invariant in
    let z : c.loop-desk.desks.items ≡ [] = search rules in
    let n = ap length z in
    let t = ap (total (λ (x : Desk LedgerTotal). added_of x.share)) z in
    record {
      sum = let a = c.close.ensures.sum in let b = i.sum in omega (arith, a, b, t);
      bounded = let a = c.close.ensures.bound c.args.limit in let b = i.above in let k = i.count in omega (arith, a, b, k, n);
      answers = λ le. i.answers (c.close.ensures.answers c.args.limit le) (λ k d l. absurd (omega (arith, l, n)));
    }
