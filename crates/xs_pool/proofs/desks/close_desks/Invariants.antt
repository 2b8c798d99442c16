use Rattle.std.proofs.Common.{◌≡◌, ◌≤◌, ◌+◌, ◌*◌, length}
use Rattle.std.specs.List.{All}
use Rattle.xs_core.specs.Good.{total}
use Rattle.xs_ledger.specs.Additions.{ticks_above}
use Rattle.xs_ledger.specs.Additions as ledger
use Rattle.xs_ledger.specs.Shares.{additions, ledger_id, own, weight, IsShareOf}
use Rattle.xs_pool.specs.Workers.{added_of, last_of, ledger_of, most_of}
use Rattle.xs_pool.proofs.desks.close_desks.Given as goal

abbrev pub invariant-loop-desk : goal.invariant-loop-desk
invariant-loop-desk l = record {
  count : length l.shares.items + length l.desks.items ≡ length l.fn.desks.items;
  ids : All (IsShareOf (ledger_id l.ledger.value)) l.shares.items;
  rest : All (λ d. ledger_of d.share ≡ ledger_id l.ledger.value) l.desks.items;
  limits : All (λ d. most_of d.share ≡ l.limit) l.desks.items;
  sum : ledger.total own l.shares.items + total (λ d. added_of d.share) l.desks.items ≡ total (λ d. added_of d.share) l.fn.desks.items;
  above : ledger.total (weight (ticks_above l.limit)) l.shares.items ≤ 1024 * length l.shares.items;
  answers : All (λ s. All (λ a. a.answer ≤ l.limit) (additions s)) l.shares.items → All (λ d. last_of d.share ≤ l.limit) l.desks.items →
      All (λ d. last_of d.share ≤ l.limit) l.fn.desks.items;
}

abbrev pub decreases-loop-desk : goal.decreases-loop-desk
decreases-loop-desk l = length l.desks.items
