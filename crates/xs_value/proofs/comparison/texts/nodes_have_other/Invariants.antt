use Rattle.std.proofs.Common.{◌≡◌, drop}
use Rattle.std.specs.List.{list_any}
use Rattle.xs_value.specs.steps.Operands.{is_other, node_texts}
use Rattle.xs_value.proofs.comparison.texts.nodes_have_other.Given as goal

abbrev pub invariant-loop-node : goal.invariant-loop-node
invariant-loop-node l = list_any (is_other l.text) (node_texts l.tree (drop l.node-index l.nodes)) ≡ list_any (is_other l.text) (node_texts l.tree l.nodes)
