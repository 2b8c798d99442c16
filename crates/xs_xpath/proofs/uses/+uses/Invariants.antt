use Rattle.std.proofs.Common.{◌≡◌, drop}
use Rattle.xs_xpath.specs.Exprs.{trees_from}
use Rattle.xs_xpath.specs.Tree.{trees}
use Rattle.xs_xpath.specs.Uses.{use_any}
use Rattle.xs_xpath.proofs.uses.+uses.Given as goal

abbrev pub invariant-use_any-loop-e : goal.invariant-use_any-loop-e
invariant-use_any-loop-e l = use_any l.sought (trees (trees_from (drop l.e-index l.es))) ≡ use_any l.sought (trees (trees_from l.es))
