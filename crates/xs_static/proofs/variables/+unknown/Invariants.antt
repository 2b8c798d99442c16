use Rattle.std.proofs.Common.{◌≡◌, drop}
use Rattle.xs_static.specs.Expressions.{any_unknown}
use Rattle.xs_static.specs.steps.InForce.{visible_in}
use Rattle.xs_xpath.specs.Exprs.{trees_from}
use Rattle.xs_xpath.specs.Tree.{trees}
use Rattle.xs_static.proofs.variables.+unknown.Given as goal

-- whether one of the expressions that are left has one
abbrev pub invariant-any_unknown-loop-e : goal.invariant-any_unknown-loop-e
invariant-any_unknown-loop-e l =
    any_unknown (visible_in l.visible) (trees (trees_from (drop l.e-index l.es))) ≡ any_unknown (visible_in l.visible) (trees (trees_from l.es))
