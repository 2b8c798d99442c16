use Rattle.std.proofs.Common.{List, arith, ap, sym, ◌∙◌}
use Rattle.xs_rules.proofs.HighestLemmas.{no_items}
use Rattle.xs_sheet.specs.declared.declarations.Template.{Template}
use Rattle.xs_rules.specs.Rules.{candidates}
use Rattle.xs_rules.specs.steps.Candidates.{best_before, passes, rule_of_best}
use Rattle.xs_rules.proofs.RuleLemmas.{none-before, template-on}
use Rattle.xs_rules.proofs.search.Search.choose_among.Goals as goal

pub loop-template-preserved : goal.loop-template-preserved
loop-template-preserved g c = record {
  whole =
      template-on (passes c.args.self.now.looked (g.K.KeyFinder.tables c.args.self.now.keys.now) c.args.self.now.tree.now c.args.self.now.mode
      c.args.self.now.node) c.loop-template.rest.now
      c.in-Some.before.now c.in-Some.template.now c.loop-template.best c.in_ok-best.best _ c.in-Some.ensures.cases.0 c.loop-template.invariant.whole
      c.in_ok-best.ensures.best;
  few = omega (arith, c.in-Some.ensures.cases.1, c.loop-template.invariant.few);
}

pub returns : goal.returns
returns g c =
    let p = passes c.args.self.now.looked (g.K.KeyFinder.tables c.args.self.now.keys.now) c.args.self.now.tree.now c.args.self.now.mode c.args.self.now.node in
    let none = no_items c.loop-template.rest.now c.in_default.ensures.cases in
    record {
      chosen =
          c.rule_of_best.ensures
          ∙ ap rule_of_best
          (sym (none-before p c.loop-template.best)
          ∙ sym (ap (λ (ts : List Template). best_before p (candidates ts) c.loop-template.best) none)
          ∙ c.loop-template.invariant.whole);
    }
