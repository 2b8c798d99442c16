use Rattle.std.proofs.Common.{◌≡◌, drop}
use Rattle.xs_xpath.specs.Exprs.{trees_from}
use Rattle.xs_pattern_spec.specs.Matching.{matches}
use Rattle.xs_pattern.proofs.matcher.Matcher.matches.Given as goal

abbrev pub invariant-loop-alternative : goal.invariant-loop-alternative
invariant-loop-alternative g l =
    matches (g.K.KeyFinder.tables l.self.keys.now) l.self.tree.now l.scope.pairs.items (trees_from (drop l.alternative-index l.pattern.alternatives.items))
    l.node
    ≡ matches (g.K.KeyFinder.tables l.self.keys.now) l.self.tree.now l.scope.pairs.items (trees_from l.pattern.alternatives.items) l.node
