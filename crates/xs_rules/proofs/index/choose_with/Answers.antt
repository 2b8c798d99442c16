use Rattle.std.proofs.Common.{◌≡◌, IfOk, refl, subst, true}
use Rattle.xs_rules.specs.declared.candidates.Looked.TheVariants.{All}
use Rattle.xs_pattern_spec.specs.declared.rule.Rule.{Rule}
use Rattle.xs_rules.proofs.RuleLemmas.{chosen-best}
use Rattle.xs_rules.proofs.index.choose_with.Goals as goal

pub returns : goal.returns
returns g c = record {
  chosen =
      subst (λ (r : Rule). IfOk c.choose_among.result (λ rule. rule ≡ r))
      (chosen-best All (λ precedence. true) (g.K.KeyFinder.tables c.args.keys.now) c.args.index.now.templates.now c.args.tree.now c.args.mode c.args.node
      (λ precedence. refl)) c.choose_among.ensures.chosen;
}
