-- The index of a stylesheet's rules, and what it knows of the nodes of a tree.
use Rattle.std.specs.Prelude.{List}
use Rattle.xs_tree.specs.Record.{Record}
use Rattle.xs_rules.specs.declared.index.RuleIndex.{RuleIndex}
use Rattle.xs_rules.specs.Rules.{candidates}
use Rattle.xs_rules.specs.steps.Index.{AreTables, IsIndexed, ranked}
use Rattle.xs_rules.specs.steps.Lists.{named_in, unnamed_in}

-- By it each rule of its templates is found, by its rank; so it is with those that are made of a stylesheet.
abbrev pub IsIndex : RuleIndex → Type 0
IsIndex i =
    IsIndexed i.templates.now (ranked (candidates i.templates.now)) i.lists.entries.items (named_in i.lists.named) (unnamed_in i.lists.unnamed)

-- The tables that are there say, each for the rule that it stands beside, which nodes match, or at or below which nodes what stands before
-- the last `//` of the pattern ends (XSLT 1.0, 5.2).
abbrev pub IsPrepared : RuleIndex → List Record → Type 0
IsPrepared i rs = AreTables i.templates.now i.lists.entries.items rs i.tables.items
