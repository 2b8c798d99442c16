use Rattle.std.proofs.Common.{◌∷◌, [], List, ap, map, sym, ◌∙◌}
use Rattle.std.proofs.lemmas.List.{map-append}
use Rattle.xs_rules.proofs.HighestLemmas.{no_items}
use Rattle.xs_xpath.specs.declared.expr.Expr.{Expr}
use Rattle.xs_xpath.specs.Exprs.{tree_from, trees_from}
use Rattle.xs_rules.specs.Rules.{candidate}
use Rattle.xs_rules.specs.steps.Candidates.{best_before, is_matching}
use Rattle.xs_rules.proofs.RuleLemmas.{alternative-on, none-before}
use Rattle.xs_rules.proofs.search.Search.best_of_pattern.Goals as goal

pub loop-alternative-preserved : goal.loop-alternative-preserved
loop-alternative-preserved g c =
    alternative-on (is_matching (g.K.KeyFinder.tables c.args.self.now.keys.now) c.args.self.now.tree.now c.args.self.now.node)
    (candidate c.args.number c.args.template.now c.args.pattern.now) (trees_from c.loop-alternative.rest.now) (trees_from c.in-Some.before.now)
    (tree_from c.in-Some.alternative.now) c.loop-alternative.best c.in_ok-best.best _
    (ap trees_from c.in-Some.ensures.cases.0 ∙ map-append tree_from c.in-Some.before.now (c.in-Some.alternative.now ∷ []))
    c.loop-alternative.invariant c.in_ok-best.ensures.best

pub returns : goal.returns
returns g c =
    let p = is_matching (g.K.KeyFinder.tables c.args.self.now.keys.now) c.args.self.now.tree.now c.args.self.now.node in
    let f = candidate c.args.number c.args.template.now c.args.pattern.now in
    let none = no_items c.loop-alternative.rest.now c.in_default.ensures.cases in
    record {
      best =
          sym (none-before p c.loop-alternative.best)
          ∙ sym (ap (λ (es : List Expr). best_before p (map f (trees_from es)) c.loop-alternative.best) none)
          ∙ c.loop-alternative.invariant;
    }
