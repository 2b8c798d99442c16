use Rattle.std.proofs.Common.{◌≡◌}
use Rattle.xs_tree.specs.Walk.{text_nodes_from}
use Rattle.xs_tree.proofs.trees.Tree.text_node_from.Given as goal

-- what was passed is no text
abbrev pub invariant-loop-place : goal.invariant-loop-place
invariant-loop-place l = text_nodes_from l.self l.fn.outer l.fn.from ≡ text_nodes_from l.self l.fn.outer l.place
