use Rattle.std.proofs.Common.{◌≡◌, [], IfOk, Option, ap, map, subst, sym, ◌∙◌}
use Rattle.std.proofs.lemmas.Bool.{eq-eqb, ne_eqb}
use Rattle.std.specs.Option.{option_map_or}
use Rattle.xs_sheet.specs.declared.scoped.ScopedPattern.{ScopedPattern}
use Rattle.xs_rules.specs.declared.candidates.Best.{Best}
use Rattle.xs_rules.specs.Rules.{candidate}
use Rattle.xs_rules.specs.steps.Candidates.{best_before, passes}
use Rattle.xs_rules.proofs.RuleLemmas.{all-matching, none-before, not_looked-at, other-mode}
use Rattle.xs_rules.proofs.search.Search.best_of_template.Goals as goal

pub returns-then-template-self : goal.returns-then-template-self
returns-then-template-self g c =
    let keys = g.K.KeyFinder.tables c.args.self.now.keys.now in
    let t = c.args.template.now in
    let p = passes c.args.self.now.looked keys c.args.self.now.tree.now c.args.self.now.mode c.args.self.now.node in
    let pat = c.in-Some.pattern in
    record {
      best =
          other-mode c.args.self.now.looked keys c.args.self.now.tree.now c.args.self.now.mode c.args.self.now.node c.args.number t pat pat.pattern c.args.best
          (ne_eqb t.mode c.args.self.now.mode c.if-template-self.true)
          ∙ sym (ap (λ (o : Option ScopedPattern). best_before p
          (option_map_or (λ (q : ScopedPattern). map (candidate c.args.number t q) q.pattern) o []) c.args.best) c.in-Some.is);
    }

pub returns-then-not-looks_at : goal.returns-then-not-looks_at
returns-then-not-looks_at g c =
    let keys = g.K.KeyFinder.tables c.args.self.now.keys.now in
    let t = c.args.template.now in
    let p = passes c.args.self.now.looked keys c.args.self.now.tree.now c.args.self.now.mode c.args.self.now.node in
    let pat = c.in-Some.pattern in
    record {
      best =
          not_looked-at c.args.self.now.looked keys c.args.self.now.tree.now c.args.self.now.mode c.args.self.now.node c.args.number t pat pat.pattern
          c.args.best
          (sym c.looks_at.ensures ∙ c.if-not-looks_at.true)
          ∙ sym (ap (λ (o : Option ScopedPattern). best_before p
          (option_map_or (λ (q : ScopedPattern). map (candidate c.args.number t q) q.pattern) o []) c.args.best) c.in-Some.is);
    }

pub returns-in-None : goal.returns-in-None
returns-in-None g c =
    let t = c.args.template.now in
    let p = passes c.args.self.now.looked (g.K.KeyFinder.tables c.args.self.now.keys.now) c.args.self.now.tree.now c.args.self.now.mode c.args.self.now.node in
    record {
      best =
          sym (none-before p c.args.best)
          ∙ sym (ap (λ (o : Option ScopedPattern). best_before p
          (option_map_or (λ (q : ScopedPattern). map (candidate c.args.number t q) q.pattern) o []) c.args.best) c.in-None.is);
    }

pub returns-else-not-looks_at : goal.returns-else-not-looks_at
returns-else-not-looks_at g c =
    let keys = g.K.KeyFinder.tables c.args.self.now.keys.now in
    let t = c.args.template.now in
    let p = passes c.args.self.now.looked keys c.args.self.now.tree.now c.args.self.now.mode c.args.self.now.node in
    let pat = c.in-Some.pattern in
    record {
      best =
          subst (λ (o : Option Best). IfOk c.best_of_pattern.result (λ found. found ≡ o))
          (all-matching c.args.self.now.looked keys c.args.self.now.tree.now c.args.self.now.mode c.args.self.now.node c.args.number t pat pat.pattern
          c.args.best
          (eq-eqb t.mode c.args.self.now.mode c.if-template-self.false) (sym c.looks_at.ensures ∙ c.if-not-looks_at.false)
          ∙ sym (ap (λ (o : Option ScopedPattern). best_before p
          (option_map_or (λ (q : ScopedPattern). map (candidate c.args.number t q) q.pattern) o []) c.args.best) c.in-Some.is))
          c.best_of_pattern.ensures.best;
    }
