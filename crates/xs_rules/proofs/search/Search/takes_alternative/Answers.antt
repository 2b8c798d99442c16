use Rattle.std.proofs.Common.{◌≡◌, ◌∙◌, ◌&&◌, Bool, IfOk, IfSome, List, ℕ, ap, subst, sym}
use Rattle.std.proofs.lemmas.Bool.{eq-eqb, ne_eqb}
use Rattle.xs_pattern_spec.specs.Matching.{matches_path, pattern_context}
use Rattle.xs_xpath.specs.Exprs.{tree_from}
use Rattle.xs_rules.specs.steps.Index.{IsTable}
use Rattle.xs_rules.proofs.search.Search.takes_alternative.Goals as goal

pub returns-then-mode-self : goal.returns-then-mode-self
returns-then-mode-self g c = record {
  taken =
      sym (ap (λ b. b && matches_path (g.K.KeyFinder.tables c.args.self.now.keys.now)
      (pattern_context c.args.self.now.tree.now c.args.pattern.now.scope c.args.self.now.node) (tree_from c.args.alternative.now))
      (ne_eqb c.args.mode c.args.self.now.mode c.if-mode-self.true));
}

pub matches_by-requires-clause-table : goal.matches_by-requires-clause-table
matches_by-requires-clause-table g c κs within =
    subst (λ (ps : List (List ℕ × List ℕ)). IfSome c.args.table (λ t. IsTable c.args.self.now.tree.now ps (tree_from c.args.alternative.now) t.now))
    (sym c.scope.ensures) c.requires.table

pub returns : goal.returns
returns g c =
    let matched : List (List ℕ × List ℕ) → Bool = λ ps. matches_path (g.K.KeyFinder.tables c.args.self.now.keys.now)
    (pattern_context c.args.self.now.tree.now ps c.args.self.now.node) (tree_from c.args.alternative.now) in
    record {
      taken =
          subst (λ (b : Bool). IfOk c.matches_by.result (λ taken. taken ≡ b))
          (ap matched c.scope.ensures
          ∙ sym (ap (λ b. b && matched c.args.pattern.now.scope) (eq-eqb c.args.mode c.args.self.now.mode c.if-mode-self.false)))
          c.matches_by.ensures.matches;
    }
