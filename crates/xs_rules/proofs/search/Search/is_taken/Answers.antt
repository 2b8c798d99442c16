use Rattle.std.proofs.Common.{◌≡◌, ◌∙◌, Bool, IfOk, subst, sym}
use Rattle.xs_rules.specs.steps.Index.{at_entry}
use Rattle.xs_rules.proofs.RuleLemmas.{passes-looked, passes-not-looked}
use Rattle.xs_rules.proofs.search.Search.is_taken.Goals as goal

pub returns-then-not-looks_at : goal.returns-then-not-looks_at
returns-then-not-looks_at g c = record {
  taken =
      passes-not-looked c.args.self.now.looked (g.K.KeyFinder.tables c.args.self.now.keys.now) c.args.self.now.tree.now c.args.self.now.mode
      c.args.self.now.node (at_entry c.args.templates.now c.args.entry) c.args.entry.rank c.requires.rank
      (sym c.looks_at.ensures ∙ c.if-not-looks_at.true);
}

pub returns-then-entry : goal.returns-then-entry
returns-then-entry g c = record {
  taken =
      sym (passes-looked c.args.self.now.looked (g.K.KeyFinder.tables c.args.self.now.keys.now) c.args.self.now.tree.now c.args.self.now.mode
      c.args.self.now.node (at_entry c.args.templates.now c.args.entry) c.args.entry.rank c.requires.rank
      (sym c.looks_at.ensures ∙ c.if-not-looks_at.false)
      ∙ c.requires.certain c.if-entry.true);
}

pub returns : goal.returns
returns g c = record {
  taken =
      subst (λ (b : Bool). IfOk c.takes_entry.result (λ taken. taken ≡ b))
      (sym (passes-looked c.args.self.now.looked (g.K.KeyFinder.tables c.args.self.now.keys.now) c.args.self.now.tree.now c.args.self.now.mode
      c.args.self.now.node (at_entry c.args.templates.now c.args.entry) c.args.entry.rank c.requires.rank
      (sym c.looks_at.ensures ∙ c.if-not-looks_at.false)))
      c.takes_entry.ensures.taken;
}
