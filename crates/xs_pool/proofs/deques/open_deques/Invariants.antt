use Rattle.std.proofs.Common.{◌≡◌, length}
use Rattle.std.specs.List.{All}
use Rattle.xs_pool.specs.Owners.{IsOpen}
use Rattle.xs_pool.proofs.deques.open_deques.Given as goal

abbrev pub invariant-loop-deque : goal.invariant-loop-deque
invariant-loop-deque g l = record {
  count : length l.owners.items ≡ l._deque;
  «open» : All (IsOpen 0) l.owners.items;
}
