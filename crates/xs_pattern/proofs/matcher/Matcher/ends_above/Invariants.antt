use Rattle.std.proofs.Common.{◌≡◌, ◌+◌, ◌<◌, length}
use Rattle.xs_xpath.specs.Exprs.{tree_from}
use Rattle.xs_pattern.specs.steps.Climb.{backwards, ends_above}
use Rattle.xs_pattern.proofs.matcher.Matcher.ends_above.Given as goal

abbrev pub invariant-loop-refused : goal.invariant-loop-refused
invariant-loop-refused g l = record {
  whole :
      ends_above (g.K.KeyFinder.tables l.self.keys.now) l.context (tree_from l.start) (backwards l.steps) l.node
      ≡ ends_above (g.K.KeyFinder.tables l.self.keys.now) l.context (tree_from l.start) (backwards l.fn.steps) l.fn.node;
  inside : l.node < length l.context.tree;
}

abbrev pub decreases-loop-refused : goal.decreases-loop-refused
decreases-loop-refused g l = length l.steps + l.node
