use Rattle.std.proofs.Common.{true, Some, List, ℕ, ap, sym, ◌∙◌}
use Rattle.std.specs.Option.{option_map_or}
use Rattle.xs_xpath.specs.Exprs.{tree_from}
use Rattle.xs_pattern_spec.specs.Matching.{matches_path, pattern_context}
use Rattle.xs_rules.specs.declared.candidates.Best.{Best}
use Rattle.xs_pattern_spec.specs.declared.ranks.Rank.{Rank}
use Rattle.xs_rules.specs.Ranks.{outranks}
use Rattle.xs_rules.specs.Rules.{candidate}
use Rattle.xs_rules.specs.steps.Candidates.{is_matching}
use Rattle.xs_rules.proofs.RuleLemmas.{one-below, one-passed, one-taken}
use Rattle.xs_rules.proofs.search.Search.best_of_alternative.Goals as goal

pub returns-then-not-is_above : goal.returns-then-not-is_above
returns-then-not-is_above g c = record {
  best =
      one-below (is_matching (g.K.KeyFinder.tables c.args.self.now.keys.now) c.args.self.now.tree.now c.args.self.now.node)
      (candidate c.args.rule.now.number c.args.rule.now.template.now c.args.rule.now.pattern.now (tree_from c.args.rule.now.expr.now)) c.args.best
      (ap (λ (r : Rank). option_map_or (λ (b : Best). outranks r b.rank) c.args.best true) (sym c.requires.rank)
      ∙ sym c.is_above.ensures ∙ c.if-not-is_above.true);
}

pub returns-then-branch : goal.returns-then-branch
returns-then-branch g c = record {
  best =
      ap (λ (r : Rank). Some (let b : Best = record { template = c.args.rule.now.number; rank = r } in b)) c.requires.rank
      ∙ one-taken (is_matching (g.K.KeyFinder.tables c.args.self.now.keys.now) c.args.self.now.tree.now c.args.self.now.node)
      (candidate c.args.rule.now.number c.args.rule.now.template.now c.args.rule.now.pattern.now (tree_from c.args.rule.now.expr.now)) c.args.best
      (ap (λ (r : Rank). option_map_or (λ (b : Best). outranks r b.rank) c.args.best true) (sym c.requires.rank)
      ∙ sym c.is_above.ensures ∙ c.if-not-is_above.false)
      (ap (λ (ps : List (List ℕ × List ℕ)). matches_path (g.K.KeyFinder.tables c.args.self.now.keys.now) (pattern_context c.args.self.now.tree.now ps
      c.args.self.now.node)
      (tree_from c.args.rule.now.expr.now)) (sym c.scope.ensures)
      ∙ sym c.in_ok-matches_by.ensures.matches ∙ c.if-branch.true);
}

pub returns : goal.returns
returns g c = record {
  best =
      one-passed (is_matching (g.K.KeyFinder.tables c.args.self.now.keys.now) c.args.self.now.tree.now c.args.self.now.node)
      (candidate c.args.rule.now.number c.args.rule.now.template.now c.args.rule.now.pattern.now (tree_from c.args.rule.now.expr.now)) c.args.best
      (ap (λ (ps : List (List ℕ × List ℕ)). matches_path (g.K.KeyFinder.tables c.args.self.now.keys.now) (pattern_context c.args.self.now.tree.now ps
      c.args.self.now.node)
      (tree_from c.args.rule.now.expr.now)) (sym c.scope.ensures)
      ∙ sym c.in_ok-matches_by.ensures.matches ∙ c.if-branch.false);
}
