use Rattle.xs_tree.proofs.WalkLemmas.{HasAppended}
use Rattle.xs_tree.proofs.trees.Tree.texts_into.Given as goal

-- the texts of what was passed were appended
abbrev pub invariant-loop-place : goal.invariant-loop-place
invariant-loop-place l = HasAppended l.self l.fn.n l.fn.out.items l.out.items l.place
