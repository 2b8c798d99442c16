use Rattle.std.proofs.Common.{◌≡◌, drop}
use Rattle.xs_value.specs.steps.Operands.{node_texts, some_equal}
use Rattle.xs_value.proofs.comparison.texts.share_text_in_turn.Given as goal

abbrev pub invariant-loop-node : goal.invariant-loop-node
invariant-loop-node l =
    some_equal (node_texts l.tree (drop l.node-index l.few)) (node_texts l.tree l.many) ≡ some_equal (node_texts l.tree l.few) (node_texts l.tree l.many)
