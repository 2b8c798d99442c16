use Rattle.std.proofs.Common.{◌≡◌, length, map}
use Rattle.std.specs.List.{All}
use Rattle.crossbeam_deque.specs.Handles.{worker_deque}
use Rattle.xs_pool.specs.Owners.{IsOpen}
use Rattle.xs_pool.specs.Starts.{IsRow}
use Rattle.xs_pool.proofs.seats.rows_of.Given as goal

abbrev pub invariant-loop-before : goal.invariant-loop-before
invariant-loop-before g l = record {
  deques : map worker_deque l.owners.items ≡ map worker_deque l.fn.owners.items;
  «open» : All (IsOpen l.before) l.owners.items;
  rows : All (λ r. IsRow (map worker_deque l.fn.owners.items) r.items) l.rows.items;
  count : length l.rows.items ≡ l.before;
}
