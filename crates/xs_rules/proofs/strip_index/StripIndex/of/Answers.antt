use Rattle.std.proofs.Common.{◌∙◌, None, ap, refl}
use Rattle.xs_rules.specs.WhiteSpace.{rank_of}
use Rattle.xs_rules.specs.steps.Strips.{found, is_rule_of}
use Rattle.xs_rules.proofs.HighestLemmas.{highest-before, highest_before, push-on}
use Rattle.xs_rules.proofs.StripIndexLemmas.{nothing-found}
use Rattle.xs_rules.proofs.strip_index.StripIndex.of.Goals as goal

pub loop-rule-init : goal.loop-rule-init
loop-rule-init c = record {
  same = refl;
  found = λ q.
      ap (highest_before rank_of (is_rule_of q) c.args.rules.now)
      (nothing-found (record { rules = c.args.rules; any = None; uris = c.with_hasher.result; names = c.with_hasher-2.result }) refl c.with_hasher.ensures.empty
      c.with_hasher-2.ensures.empty q)
      ∙ highest-before rank_of (is_rule_of q) c.args.rules.now;
}

pub loop-rule-preserved : goal.loop-rule-preserved
loop-rule-preserved c = record {
  same = c.in_ok-add.ensures.rules ∙ c.loop-rule.invariant.same;
  found = λ q.
      push-on rank_of (is_rule_of q) c.loop-rule.rest.now c.in-Some.before.now c.in-Some.rule.now (found c.loop-rule.index q) (found c.add.new.self q) _
      c.in-Some.ensures.cases.0 (c.loop-rule.invariant.found q) (c.in_ok-add.ensures.found q);
}
