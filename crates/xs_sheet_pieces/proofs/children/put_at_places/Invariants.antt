use Rattle.std.proofs.Common.{◌≡◌, ◌++◌, length, reverse}
use Rattle.xs_task_laws.specs.Placed.{placed_tasks}
use Rattle.xs_sheet_pieces.proofs.children.put_at_places.Given as goal

abbrev pub invariant-loop-task : goal.invariant-loop-task
invariant-loop-task l = l.placed.items ++ placed_tasks l.place (length l.placed.items) (reverse l.tasks.items) ≡ placed_tasks l.place 0 l.fn.tasks.items

abbrev pub decreases-loop-task : goal.decreases-loop-task
decreases-loop-task l = length l.tasks.items
