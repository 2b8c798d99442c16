use Rattle.std.proofs.Common.{◌+◌, None, length, reverse}
use Rattle.xs_rules.specs.Rules.{candidates}
use Rattle.xs_rules.specs.steps.Index.{ranked}
use Rattle.xs_rules.proofs.IndexLemmas.{IsNodeSearched}
use Rattle.xs_rules.proofs.lists.Lists.choose_among.Given as goal

abbrev pub invariant-loop-place : goal.invariant-loop-place
invariant-loop-place g l =
    IsNodeSearched l.search.looked (g.K.KeyFinder.tables l.search.keys.now) l.search.tree.now l.search.mode l.search.node (ranked (candidates l.templates))
    (reverse l.named) (reverse l.unnamed) None

abbrev pub decreases-loop-place : goal.decreases-loop-place
decreases-loop-place g l = length (reverse l.named) + length (reverse l.unnamed)
