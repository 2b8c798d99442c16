use Rattle.std.proofs.Common.{sym}
use Rattle.xs_tree.proofs.WalkLemmas.{IsPlaced-at}
use Rattle.xs_rules.specs.WhiteSpace.{preserves}
use Rattle.xs_rules.proofs.WhiteSpaceLemmas.{known-at, known-within}
use Rattle.xs_rules.proofs.white_space.is_stripped.Goals as goal

pub is_stripped_in-requires-clause-within : goal.is_stripped_in-requires-clause-within
is_stripped_in-requires-clause-within c =
    known-within (preserves c.args.tree.now) c.args.kept.now c.args.node c.in-Some.parent c.requires.kept
    (IsPlaced-at c.args.tree.now c.args.node c.in-Some.parent c.in-Some.ensures.tree c.requires.node (sym c.in-Some.ensures.parent)).before

pub is_stripped_in-requires-clause-kept : goal.is_stripped_in-requires-clause-kept
is_stripped_in-requires-clause-kept c =
    known-at (preserves c.args.tree.now) c.args.kept.now c.args.node c.in-Some.parent c.requires.kept
    (IsPlaced-at c.args.tree.now c.args.node c.in-Some.parent c.in-Some.ensures.tree c.requires.node (sym c.in-Some.ensures.parent)).before
