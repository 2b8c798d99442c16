use Rattle.std.proofs.Common.{arith, ap, sym, subst, length}
use Rattle.std.specs.List.{All}
use Rattle.std.proofs.lemmas.List.Elements.{All-push}
use Rattle.xs_ledger.specs.Shares.{additions, ledger_id}
use Rattle.xs_ledger.specs.declared.total.LedgerTotal.{LedgerTotal}
use Rattle.xs_pieces.specs.declared.piece.Desk.{Desk}
use Rattle.xs_pool.specs.Starts.{IsFree, IsFresh}
use Rattle.xs_pool.proofs.DeskLemmas.{fresh-desk, within-none}
use Rattle.xs_pool.proofs.ListLemmas.{each-before, each-last, length-more}
use Rattle.xs_pool.proofs.desks.desks_of.Goals as goal

pub new-requires-clause-within : goal.new-requires-clause-within
new-requires-clause-within c =
    let free = each-last (λ j x. IsFree (ledger_id c.args.ledger.now.value) x) c.pop.new.self.items c.in-Some.share
    (subst (All (IsFree (ledger_id c.args.ledger.now.value))) c.in-Some.ensures.items c.loop-share.invariant.shares) in
    within-none c.args.limit (additions c.in-Some.share) free.unused

pub loop-share-preserved : goal.loop-share-preserved
loop-share-preserved c =
    let i = c.loop-share.invariant in
    let id = ledger_id c.args.ledger.now.value in
    let ss = c.pop.new.self.items in
    let s = c.in-Some.share in
    let e = c.in-Some.ensures.items in
    let p = c.in_ok-push.ensures.items in
    let shares = subst (All (IsFree id)) e i.shares in
    let d : Desk LedgerTotal = record { share = c.new.result; pool = c.new-in-Some.result } in
    record {
      count =
          let a = ap length e in
          let b = length-more ss s in
          let m = ap length p in
          let n = length-more c.loop-share.desks.items d in
          let q = i.count in
          omega (arith, a, b, m, n, q);
      shares = each-before (λ j x. IsFree id x) ss s shares;
      fresh = subst (All (IsFresh id c.args.limit)) (sym p) (All-push (IsFresh id c.args.limit) c.loop-share.desks.items d i.fresh
          (fresh-desk id c.args.limit s d (each-last (λ j x. IsFree id x) ss s shares) c.new.ensures.share c.new.ensures.limit));
    }
