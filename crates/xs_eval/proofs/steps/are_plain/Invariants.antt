use Rattle.std.proofs.Common.{◌≡◌, length}
use Rattle.xs_xpath.specs.Exprs.{trees_from}
use Rattle.xs_xpath.specs.Tree.{trees}
use Rattle.xs_eval.specs.steps.Unions.{are_plain}
use Rattle.xs_eval.proofs.steps.are_plain.Given as goal

abbrev pub invariant-loop-first : goal.invariant-loop-first
invariant-loop-first l = are_plain (trees (trees_from l.rest)) ≡ are_plain (trees (trees_from l.operands))

abbrev pub decreases-loop-first : goal.decreases-loop-first
decreases-loop-first l = length l.rest
