use Rattle.std.proofs.Common.{◌≡◌, length}
use Rattle.xs_xpath.specs.Exprs.{trees_from}
use Rattle.xs_xpath.specs.Patterns.{are_pattern_paths}
use Rattle.xs_xpath.specs.Tree.{trees}
use Rattle.xs_parser.proofs.pattern.are_pattern_paths.Given as goal

abbrev pub invariant-loop-first : goal.invariant-loop-first
invariant-loop-first l = are_pattern_paths (trees (trees_from l.rest)) ≡ are_pattern_paths (trees (trees_from l.paths))

abbrev pub decreases-loop-first : goal.decreases-loop-first
decreases-loop-first l = length l.rest
