use Rattle.std.proofs.Common.{◌≡◌, length, map}
use Rattle.xs_xpath.specs.Exprs.{trees_from}
use Rattle.xs_rules.specs.Rules.{candidate}
use Rattle.xs_rules.specs.steps.Candidates.{best_before, is_matching}
use Rattle.xs_rules.proofs.search.Search.best_of_pattern.Given as goal

abbrev pub invariant-loop-alternative : goal.invariant-loop-alternative
invariant-loop-alternative g l =
    best_before (is_matching (g.K.KeyFinder.tables l.self.keys.now) l.self.tree.now l.self.node) (map (candidate l.number l.template l.pattern) (trees_from
    l.rest)) l.best
    ≡ best_before (is_matching (g.K.KeyFinder.tables l.self.keys.now) l.self.tree.now l.self.node)
    (map (candidate l.number l.template l.pattern) l.pattern.pattern) l.fn.best

abbrev pub decreases-loop-alternative : goal.decreases-loop-alternative
decreases-loop-alternative g l = length l.rest
