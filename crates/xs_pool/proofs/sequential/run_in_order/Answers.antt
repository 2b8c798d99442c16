use Rattle.std.proofs.Common.{arith, ap, ◌≡◌, ◌≤◌, ◌∷◌, ◌++◌, [], ◌∙◌, ℕ, List, length, subst, sym}
use Rattle.std.specs.List.{All}
use Rattle.std.proofs.lemmas.List.Elements.{All-push}
use Rattle.xs_core.specs.Good.{total}
use Rattle.xs_ledger.specs.Shares.{ledger_id}
use Rattle.xs_ledger.specs.declared.total.LedgerTotal.{LedgerTotal}
use Rattle.xs_pieces.specs.Collection.{IsCollection}
use Rattle.xs_pieces.specs.declared.piece.Desk.{Desk}
use Rattle.xs_pool.specs.Starts.{IsFresh}
use Rattle.xs_pool.specs.Workers.{added_of, last_of, ledger_of, most_of}
use Rattle.xs_pool.proofs.DeskLemmas.{closed, none-left}
use Rattle.xs_pool.proofs.ListLemmas.{each-before, each-last, length-more}
use Rattle.xs_pool.proofs.sequential.run_in_order.Goals as goal

pub run_pieces-requires-clause-most : goal.run_pieces-requires-clause-most
run_pieces-requires-clause-most g c =
    let id = ledger_id c.in_ok-ledger.field-0.ledger.value in
    (each-last (λ j x. IsFresh id c.args.limits.ticks x) c.pop.new.self.items c.in-Some.desk
    (subst (All (IsFresh id c.args.limits.ticks)) c.in-Some.ensures.items c.in_ok-ledger.ensures.fresh)).bound

pub run_pieces-requires-clause-new : goal.run_pieces-requires-clause-new
run_pieces-requires-clause-new g c =
    let id = ledger_id c.in_ok-ledger.field-0.ledger.value in
    let d = each-last (λ j x. IsFresh id c.args.limits.ticks x) c.pop.new.self.items c.in-Some.desk
    (subst (All (IsFresh id c.args.limits.ticks)) c.in-Some.ensures.items c.in_ok-ledger.ensures.fresh) in
    (d.added, d.last)

pub close_desks-requires : goal.close_desks-requires
close_desks-requires g c =
    let o = c.in_ok-ledger.ensures in
    let id = ledger_id c.in_ok-ledger.field-0.ledger.value in
    let ticks = c.args.limits.ticks in
    let ds = c.pop.new.self.items in
    let d = c.in-Some.desk in
    let e = c.in-Some.ensures.items in
    let fresh = subst (All (IsFresh id ticks)) e o.fresh in
    let rest = each-before (λ j x. IsFresh id ticks x) ds d fresh in
    let last = each-last (λ j x. IsFresh id ticks x) ds d fresh in
    let n = c.in_ok-ran.ran.desk in
    let p = c.in_ok-push.ensures.items in
    record {
      count =
          let a = ap length e in
          let b = length-more ds d in
          let k = ap length p in
          let m = length-more ds n in
          let q = o.count in
          let r = o.seats in
          omega (arith, a, b, k, m, q, r);
      shares = subst (All (λ (x : Desk LedgerTotal). ledger_of x.share ≡ id)) (sym p) (All-push (λ (x : Desk LedgerTotal). ledger_of x.share ≡ id) ds n
          (λ k x lt. (rest k x lt).ledger) (c.in_ok-ran.ensures.kept ∙ last.ledger));
      most = subst (All (λ (x : Desk LedgerTotal). most_of x.share ≡ ticks)) (sym p) (All-push (λ (x : Desk LedgerTotal). most_of x.share ≡ ticks) ds n
          (λ k x lt. (rest k x lt).bound) c.in_ok-ran.ensures.most);
    }

pub returns : goal.returns
returns g c =
    let o = c.in_ok-ledger.ensures in
    let ds = c.pop.new.self.items in
    let d = c.in-Some.desk in
    let e = c.in-Some.ensures.items in
    let r = c.in_ok-ran.ran in
    let n = r.desk in
    let p = c.in_ok-push.ensures.items in
    let z = c.in_ok-total.ensures in
    let none = none-left ds (let a = ap length e in let b = length-more ds d in let q = o.count in omega (arith, a, b, q)) in
    let only : c.push.new.self.items ≡ n ∷ [] = p ∙ ap (λ (l : List (Desk LedgerTotal)). l ++ n ∷ []) none in
    let sum : c.in_ok-total.total ≡ added_of n.share =
    let a = z.sum in let b = ap (total (λ (x : Desk LedgerTotal). added_of x.share)) only in omega (arith, a, b) in
    let answers : c.in_ok-total.total ≤ c.args.limits.ticks → last_of n.share ≤ c.args.limits.ticks =
    λ le. subst (All (λ (x : Desk LedgerTotal). last_of x.share ≤ c.args.limits.ticks)) only (z.answers le) 0 n (omega arith) in
    record {
      collection = closed (λ (k : ℕ). IsCollection (g.R.Runner.is_own c.args.runner.now) (g.R.Runner.place_of c.args.runner.now)
          (g.R.Runner.own c.args.runner.now) c.args.root c.args.limits r.pieces.items k) c.args.limits.ticks (added_of n.share) (last_of n.share)
          c.in_ok-total.total sum answers c.in_ok-ran.ensures.run;
      claims = c.in_ok-ran.ensures.claims;
      bounded = let a = z.bounded in let b = ap length only in omega (arith, a, b);
    }
