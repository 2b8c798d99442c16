use Rattle.std.proofs.Common.{take}
use Rattle.xs_rules.specs.Rules.{candidates}
use Rattle.xs_rules.specs.steps.Index.{AreEntries}
use Rattle.xs_rules.proofs.entries.entries_of.Given as goal

abbrev pub invariant-loop-number : goal.invariant-loop-number
invariant-loop-number l = AreEntries l.templates (candidates (take l.number l.templates)) l.entries.items
