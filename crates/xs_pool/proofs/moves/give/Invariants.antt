use Rattle.std.proofs.Common.{◌≡◌, ℕ, ◌+◌, ◌++◌, List, length, reverse}
use Rattle.std.specs.List.{All}
use Rattle.crossbeam_deque.specs.Handles.{SameWorker}
use Rattle.xs_core.specs.Good.{total}
use Rattle.xs_pool.specs.Owners.{given_of, parts_of, taken_of, HasGiven}
use Rattle.xs_pool.proofs.moves.give.Given as goal

abbrev pub invariant-loop-task : goal.invariant-loop-task
invariant-loop-task g l = record {
  same : SameWorker l.fn.deque l.deque;
  parts : parts_of l.deque ≡ parts_of l.fn.deque;
  taken : taken_of l.deque ≡ taken_of l.fn.deque;
  kept : All g.K.Known.waits l.kept.items;
  tasks : All g.K.Known.waits l.tasks.items;
  given : (h : g.row.T.Denot → ℕ) → total h (given_of l.deque) + (total h l.kept.items + total h l.tasks.items)
      ≡ total h (given_of l.fn.deque) + (total h l.fn.kept.items + total h l.fn.tasks.items);
  ordered : (done : List g.row.T.Denot) × ((done ++ reverse l.tasks.items ≡ reverse l.fn.tasks.items)
      × HasGiven done (given_of l.fn.deque) (given_of l.deque) l.fn.kept.items l.kept.items);
}

abbrev pub decreases-loop-task : goal.decreases-loop-task
decreases-loop-task g l = length l.tasks.items
