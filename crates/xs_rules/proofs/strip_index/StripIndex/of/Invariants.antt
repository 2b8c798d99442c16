use Rattle.std.proofs.Common.{◌≡◌, filter, length}
use Rattle.xs_rules.specs.Ranks.{highest}
use Rattle.xs_rules.specs.WhiteSpace.{rank_of}
use Rattle.xs_rules.specs.steps.Strips.{Tested, is_rule_of, found}
use Rattle.xs_rules.proofs.HighestLemmas.{highest_before}
use Rattle.xs_rules.proofs.strip_index.StripIndex.of.Given as goal

abbrev pub invariant-loop-rule : goal.invariant-loop-rule
invariant-loop-rule l = record {
  same : l.index.rules.now ≡ l.rules;
  found : (q : Tested) → highest_before rank_of (is_rule_of q) l.rest (found l.index q) ≡ highest rank_of (filter (is_rule_of q) l.rules);
}

abbrev pub decreases-loop-rule : goal.decreases-loop-rule
decreases-loop-rule l = length l.rest
