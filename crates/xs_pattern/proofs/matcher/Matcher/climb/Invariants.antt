use Rattle.std.proofs.Common.{◌<◌, ◌≤◌, length}
use Rattle.xs_xpath.specs.Exprs.{tree_from}
use Rattle.xs_pattern.specs.steps.Climb.{backwards}
use Rattle.xs_pattern.proofs.ClimbLemmas.{Gone}
use Rattle.xs_pattern.proofs.matcher.Matcher.climb.Given as goal

abbrev pub invariant-loop-step : goal.invariant-loop-step
invariant-loop-step g l = record {
  gone : Gone (g.K.KeyFinder.tables l.self.keys.now) l.context (tree_from l.start) (backwards l.fn.steps) (backwards l.steps) l.fn.node l.node;
  inside : l.node < length l.context.tree;
  shorter : length l.steps ≤ length l.fn.steps;
}

abbrev pub decreases-loop-step : goal.decreases-loop-step
decreases-loop-step g l = length l.steps
