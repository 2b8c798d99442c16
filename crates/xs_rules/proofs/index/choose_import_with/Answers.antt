use Rattle.std.proofs.Common.{◌≡◌, IfOk, subst}
use Rattle.xs_pattern_spec.specs.declared.rule.Rule.{Rule}
use Rattle.xs_rules.specs.Rules.{is_imported}
use Rattle.xs_rules.proofs.RuleLemmas.{chosen-best}
use Rattle.xs_rules.proofs.index.choose_import_with.Goals as goal

pub returns : goal.returns
returns g c =
    let ts = c.args.index.now.templates.now in
    record {
      chosen =
          subst (λ (r : Rule). IfOk c.choose_among.result (λ rule. rule ≡ r))
          (chosen-best c.imported_into-looked.result (is_imported ts c.args.under) (g.K.KeyFinder.tables c.args.keys.now) ts c.args.tree.now c.args.mode
          c.args.node c.imported_into-looked.ensures) c.choose_among.ensures.chosen;
    }
