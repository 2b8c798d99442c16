use Rattle.std.proofs.Common.{ℕ, ◌||◌, ◌∙◌, Bool, ap, false, get_or}
use Rattle.xs_pattern_spec.specs.Matching.{matches_path, pattern_context}
use Rattle.xs_xpath.specs.Exprs.{tree_from}
use Rattle.xs_pattern.proofs.MatchTableLemmas.{table-more}
use Rattle.xs_pattern.proofs.matcher.Matcher.with_table.Goals as goal

pub loop-place-preserved : goal.loop-place-preserved
loop-place-preserved g c =
    let keys = g.K.KeyFinder.tables c.args.self.now.keys.now in
    let was = c.args.found.now in
    let test : ℕ → Bool = λ n. get_or was n false
    || matches_path keys (pattern_context c.args.self.now.tree.now c.args.scope.now.pairs.items n) (tree_from c.args.alternative.now) in
    table-more test c.loop-place.joined.items c.push.new.self.items c.loop-place.place c.is_either.result c.in_ok-push.ensures.items c.loop-place.invariant
    (c.is_either.ensures ∙ ap (λ b. get_or was c.at-node.result false || b) c.in_ok-is_matched.ensures.matches ∙ ap test c.at-node.ensures)
