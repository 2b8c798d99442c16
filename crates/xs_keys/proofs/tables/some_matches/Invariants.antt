use Rattle.std.proofs.Common.{◌≡◌, [], drop}
use Rattle.xs_pattern_spec.specs.Matching.{matches}
use Rattle.xs_keys.proofs.tables.some_matches.Given as goal

abbrev pub invariant-loop-alternative : goal.invariant-loop-alternative
invariant-loop-alternative l =
    matches [] l.tree l.pattern.scope (drop l.alternative-index l.pattern.pattern) l.node ≡ matches [] l.tree l.pattern.scope l.pattern.pattern l.node
