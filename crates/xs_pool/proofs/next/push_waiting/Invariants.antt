use Rattle.std.proofs.Common.{◌≡◌, ◌++◌, map, reverse, length}
use Rattle.xs_pool.specs.steps.Running.{waiting}
use Rattle.xs_pool.proofs.next.push_waiting.Given as goal

abbrev pub invariant-loop-task : goal.invariant-loop-task
invariant-loop-task g l = l.fn.pieces.items ++ map waiting l.fn.tasks.items ≡ l.pieces.items ++ map waiting (reverse l.tasks.items)

abbrev pub decreases-loop-task : goal.decreases-loop-task
decreases-loop-task g l = length l.tasks.items
