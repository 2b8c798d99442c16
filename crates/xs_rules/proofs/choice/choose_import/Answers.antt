use Rattle.std.proofs.Common.{◌≡◌, IfOk, List, ap, subst, ◌∙◌}
use Rattle.xs_sheet.specs.declared.declarations.Template.{Template}
use Rattle.xs_pattern_spec.specs.declared.rule.Rule.{Rule}
use Rattle.xs_rules.specs.Rules.{is_imported}
use Rattle.xs_rules.proofs.RuleLemmas.{chosen-best}
use Rattle.xs_rules.proofs.choice.choose_import.Goals as goal

pub returns : goal.returns
returns g c =
    let ts = c.args.sheet.now.templates in
    record {
      chosen =
          subst (λ (r : Rule). IfOk c.choose_among.result (λ rule. rule ≡ r))
          (chosen-best c.imported_into-looked.result (is_imported ts c.args.under) (g.K.KeyFinder.tables c.args.keys.now) ts c.args.tree.now c.args.mode
          c.args.node
          (λ precedence. c.imported_into-looked.ensures precedence
          ∙ ap (λ (l : List Template). is_imported l c.args.under precedence) c.as_slice.ensures)) c.choose_among.ensures.chosen;
    }
