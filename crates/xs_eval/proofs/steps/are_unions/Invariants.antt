use Rattle.std.proofs.Common.{◌≡◌, length}
use Rattle.xs_xpath.specs.Patterns.{are_unions}
use Rattle.xs_eval.proofs.steps.are_unions.Given as goal

abbrev pub invariant-loop-first : goal.invariant-loop-first
invariant-loop-first l = are_unions l.rest ≡ are_unions l.operators

abbrev pub decreases-loop-first : goal.decreases-loop-first
decreases-loop-first l = length l.rest
