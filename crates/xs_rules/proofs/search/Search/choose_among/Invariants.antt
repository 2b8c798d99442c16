use Rattle.std.proofs.Common.{◌≡◌, None, length, ◌≤◌}
use Rattle.xs_rules.specs.Rules.{candidates}
use Rattle.xs_rules.specs.steps.Candidates.{best_before, passes}
use Rattle.xs_rules.proofs.search.Search.choose_among.Given as goal

abbrev pub invariant-loop-template : goal.invariant-loop-template
invariant-loop-template g l = record {
  whole :
      best_before (passes l.self.looked (g.K.KeyFinder.tables l.self.keys.now) l.self.tree.now l.self.mode l.self.node) (candidates l.rest) l.best
      ≡ best_before (passes l.self.looked (g.K.KeyFinder.tables l.self.keys.now) l.self.tree.now l.self.mode l.self.node) (candidates l.sheet.templates) None;
  few : length l.rest ≤ length l.sheet.templates;
}

abbrev pub decreases-loop-template : goal.decreases-loop-template
decreases-loop-template g l = length l.rest
