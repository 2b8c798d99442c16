use Rattle.std.proofs.Common.{◌≡◌, ◌+◌, length}
use Rattle.std.specs.List.{All}
use Rattle.xs_ledger.specs.Shares.{ledger_id}
use Rattle.xs_pool.specs.Starts.{IsFree, IsFresh}
use Rattle.xs_pool.proofs.desks.desks_of.Given as goal

abbrev pub invariant-loop-share : goal.invariant-loop-share
invariant-loop-share l = record {
  count : length l.desks.items + length l.shares.items ≡ length l.fn.shares.items;
  shares : All (IsFree (ledger_id l.ledger.value)) l.shares.items;
  fresh : All (IsFresh (ledger_id l.ledger.value) l.limit) l.desks.items;
}

abbrev pub decreases-loop-share : goal.decreases-loop-share
decreases-loop-share l = length l.shares.items
