use Rattle.std.proofs.Common.{ap, ◌∙◌, sym}
use Rattle.xs_ledger.specs.Shares.{ledger_id, seats_of}
use Rattle.xs_pool.proofs.desks.open_desks.Goals as goal

pub desks_of-requires : goal.desks_of-requires
desks_of-requires c =
    let l = c.in_ok-ledger.ensures in
    record {
      limit = c.requires.limit;
      shares = λ k d lt. record { share = l.shares k d lt ∙ ap ledger_id (sym c.in_ok-ledger-2.ensures.ok); unused = l.unused k d lt };
    }

pub returns : goal.returns
returns c = record {
  seats = ap seats_of c.in_ok-ledger-2.ensures.ok ∙ c.in_ok-ledger.ensures.seats;
  count = c.in_ok-desks.ensures.count ∙ c.in_ok-ledger.ensures.count;
  fresh = c.in_ok-desks.ensures.fresh;
}
