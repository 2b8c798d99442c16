use Rattle.std.proofs.Common.{◌≡◌}
use Rattle.xs_tree.specs.Walk.{children_from}
use Rattle.xs_tree.proofs.trees.Tree.child_from.Given as goal

abbrev pub invariant-loop-place : goal.invariant-loop-place
invariant-loop-place l = children_from l.self l.parent l.fn.from ≡ children_from l.self l.parent l.place
