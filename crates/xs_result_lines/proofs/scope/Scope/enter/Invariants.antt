use Rattle.std.proofs.Common.{◌≡◌, ◌++◌, vec_len}
use Rattle.xs_result_lines.specs.steps.Open.{bindings_of}
use Rattle.xs_result_lines.proofs.scope.Scope.enter.Given as goal

-- those that are left are still to come before
abbrev pub invariant-loop-last : goal.invariant-loop-last
invariant-loop-last l = bindings_of l.left.items ++ l.scope ≡ bindings_of l.initial.left.items ++ l.initial.scope

abbrev pub decreases-loop-last : goal.decreases-loop-last
decreases-loop-last l = vec_len l.left
