use Rattle.std.proofs.Common.{◌≡◌, ◌+◌, ℕ}
use Rattle.std.specs.List.{All}
use Rattle.xs_core.specs.Good.{total}
use Rattle.xs_pool.specs.Owners.{given_of, parts_of, taken_of}
use Rattle.xs_pool.specs.Rule.{all_parts}
use Rattle.xs_pool.proofs.moves.drain.Given as goal

abbrev pub invariant-loop-task : goal.invariant-loop-task
invariant-loop-task g l = record {
  parts : parts_of l.deque ≡ all_parts;
  given : given_of l.deque ≡ given_of l.fn.deque;
  left : All g.K.Known.waits l.left.items;
  all : (h : g.row.T.Denot → ℕ) → total h (taken_of l.deque) + total h l.fn.left.items ≡ total h (taken_of l.fn.deque) + total h l.left.items;
}
