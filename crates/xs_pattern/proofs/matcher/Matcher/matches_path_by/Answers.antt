use Rattle.std.proofs.Common.{◌≡◌, IfOk, List, reverse, subst}
use Rattle.xs_xpath.specs.Tree.{Tree}
use Rattle.xs_xpath.specs.Exprs.{tree_from, trees_from}
use Rattle.xs_pattern_spec.specs.Matching.{ends_path, matches_path, pattern_context, start_of}
use Rattle.xs_pattern.proofs.matcher.Matcher.matches_path_by.Goals as goal

pub returns : goal.returns
unfolding matches_path
returns g c =
    let keys = g.K.KeyFinder.tables c.args.self.now.keys.now in
    let ctx = pattern_context c.args.self.now.tree.now c.args.scope.now.pairs.items c.args.node in
    record {
      matches =
          subst (λ (ss : List Tree). IfOk c.ends_path.result
          (λ b. b ≡ ends_path keys ctx (start_of (tree_from c.args.alternative.now)) (reverse ss) c.args.node)) c.steps_of.ensures
          (subst (λ (t : Tree). IfOk c.ends_path.result (λ b. b ≡ ends_path keys ctx t (reverse (trees_from c.steps_of.result.now)) c.args.node))
          c.start_of.ensures c.ends_path.ensures.ends);
    }
