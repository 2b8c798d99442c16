use Rattle.std.proofs.Common.{◌≡◌}
use Rattle.xs_tree.specs.Walk.{attributes_from}
use Rattle.xs_tree.proofs.trees.Tree.attribute_from.Given as goal

abbrev pub invariant-loop-place : goal.invariant-loop-place
invariant-loop-place l = attributes_from l.self l.parent l.fn.from ≡ attributes_from l.self l.parent l.place
