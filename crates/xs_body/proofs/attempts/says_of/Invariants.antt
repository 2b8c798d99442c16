use Rattle.std.proofs.Common.{◌≡◌, ◌++◌, length}
use Rattle.xs_trace.specs.Kept.{marks_of}
use Rattle.xs_trace.specs.Mark.{messages_of}
use Rattle.xs_body_spec.specs.Tasks.{Task}
use Rattle.xs_body.proofs.attempts.says_of.Given as goal

abbrev pub invariant-loop-item : goal.invariant-loop-item
invariant-loop-item l = l.says.items ++ messages_of {H = Task} (marks_of l.left) ≡ messages_of {H = Task} (marks_of l.items)

abbrev pub decreases-loop-item : goal.decreases-loop-item
decreases-loop-item l = length l.left
