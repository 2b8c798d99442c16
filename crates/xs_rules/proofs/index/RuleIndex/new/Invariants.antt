use Rattle.std.proofs.Common.{take}
use Rattle.xs_rules.specs.Rules.{candidates}
use Rattle.xs_rules.specs.steps.Index.{IsIndexed, ranked}
use Rattle.xs_rules.specs.steps.Lists.{named_in, unnamed_in}
use Rattle.xs_rules.proofs.index.RuleIndex.new.Given as goal

abbrev pub invariant-loop-place : goal.invariant-loop-place
invariant-loop-place l =
    IsIndexed l.templates (take l.place (ranked (candidates l.templates))) l.lists.entries.items (named_in l.lists.named) (unnamed_in l.lists.unnamed)
