use Rattle.std.proofs.Common.{◌≡◌, ◌++◌, length}
use Rattle.xs_body.proofs.tasks.copied_values.Given as goal

abbrev pub invariant-loop-value : goal.invariant-loop-value
invariant-loop-value l = l.copies.items ++ l.left ≡ l.values

abbrev pub decreases-loop-value : goal.decreases-loop-value
decreases-loop-value l = length l.left
