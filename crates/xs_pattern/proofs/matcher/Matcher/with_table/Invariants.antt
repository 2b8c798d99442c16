use Rattle.std.proofs.Common.{◌≡◌, ◌||◌, false, get_or, map}
use Rattle.std.specs.List.{range_with_len}
use Rattle.xs_pattern_spec.specs.Matching.{matches_path, pattern_context}
use Rattle.xs_xpath.specs.Exprs.{tree_from}
use Rattle.xs_pattern.proofs.matcher.Matcher.with_table.Given as goal

abbrev pub invariant-loop-place : goal.invariant-loop-place
invariant-loop-place g l =
    l.joined.items ≡ map (λ n. get_or l.found n false
    || matches_path (g.K.KeyFinder.tables l.self.keys.now) (pattern_context l.self.tree.now l.scope.pairs.items n) (tree_from l.alternative)) (range_with_len 0
    l.place)
