use Rattle.std.proofs.Common.{◌≡◌, ℕ, ◌<◌, false, get_or, length, take}
use Rattle.xs_pattern_spec.specs.Matching.{matches}
use Rattle.xs_pattern.proofs.match_tables.match_table.Given as goal

-- the found are those of the alternatives that were passed
abbrev pub invariant-loop-alternative : goal.invariant-loop-alternative
invariant-loop-alternative g l =
    (n : ℕ) → n < length l.tree → get_or l.found.items n false
    ≡ matches (g.K.KeyFinder.tables l.keys) l.tree l.pattern.scope (take l.alternative-index l.pattern.pattern) n
