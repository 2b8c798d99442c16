use Rattle.std.proofs.Common.{sym}
use Rattle.xs_xpath.specs.Exprs.{trees_from}
use Rattle.xs_parser.proofs.PatternLemmas.{listed_trees}
use Rattle.xs_parser.proofs.pattern.several.Goals as goal

pub returns : goal.returns
returns c = record { pattern = sym (listed_trees (trees_from c.args.alternatives.items)) }
