use Rattle.std.proofs.Common.{◌≡◌, ◌+◌, ◌++◌, ℕ, length, map, reverse}
use Rattle.std.specs.List.{All}
use Rattle.crossbeam_deque.specs.Handles.{worker_deque}
use Rattle.atomic_table.specs.Seated.{TableId}
use Rattle.xs_pool.specs.Owners.{IsOpen}
use Rattle.xs_pool.specs.Starts.{AreNumbered, IsFresh, IsNew, IsRow}
use Rattle.xs_pool.specs.Workers.{deque_of}
use Rattle.xs_pool.proofs.seats.members_of.Given as goal

abbrev pub invariant-loop-deque : goal.invariant-loop-deque
invariant-loop-deque g l = record {
  count : length l.members.items + length l.owners.items ≡ l.count;
  numbers : AreNumbered l.count l.members.items;
  rows : length l.rows.items ≡ length l.owners.items;
  desks : length l.desks.items ≡ length l.owners.items;
  «open» : All (IsOpen l.count) l.owners.items;
  rights : All (λ r. IsRow (map worker_deque l.fn.owners.items) r.items) l.rows.items;
  deques : map worker_deque l.owners.items ++ map deque_of (reverse l.members.items) ≡ map worker_deque l.fn.owners.items;
  new : (id : TableId) (limit : ℕ) → All (IsFresh id limit) l.fn.desks.items →
      All (IsFresh id limit) l.desks.items × All (IsNew id limit l.count (map worker_deque l.fn.owners.items)) l.members.items;
}

abbrev pub decreases-loop-deque : goal.decreases-loop-deque
decreases-loop-deque g l = length l.owners.items
