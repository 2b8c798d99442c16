use Rattle.std.proofs.Common.{arith, ◌≤◌, ◌<◌, length, subst, sym}
use Rattle.xs_ledger.specs.declared.total.LedgerTotal.{LedgerTotal}
use Rattle.xs_pieces.specs.declared.piece.Desk.{Desk}
use Rattle.xs_pool.specs.Workers.{last_of, most_of}
use Rattle.xs_pool.proofs.desks.is_above.Goals as goal

pub returns-then-ends_above : goal.returns-then-ends_above
returns-then-ends_above c = record {
  above = λ e all.
      let d = c.index-desks-k.result in
      let lt : c.loop-k.k < length c.args.desks.now = omega (arith, c.loop-k-test.true) in
      let within : last_of d.share ≤ most_of d.share =
      subst (λ (x : Desk LedgerTotal). last_of x.share ≤ most_of x.share) (sym c.index-desks-k.is) (all c.loop-k.k d lt) in
      let q : most_of d.share < last_of d.share = c.ends_above.ensures.above c.if-ends_above.true in
      absurd (omega (arith, within, q));
}
