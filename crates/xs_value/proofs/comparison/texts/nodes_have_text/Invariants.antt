use Rattle.std.proofs.Common.{◌≡◌, drop}
use Rattle.std.specs.List.{list_any}
use Rattle.std.specs.Str.{bytes_eq}
use Rattle.xs_value.specs.steps.Operands.{node_texts}
use Rattle.xs_value.proofs.comparison.texts.nodes_have_text.Given as goal

abbrev pub invariant-loop-node : goal.invariant-loop-node
invariant-loop-node l = list_any (bytes_eq l.text) (node_texts l.tree (drop l.node-index l.nodes)) ≡ list_any (bytes_eq l.text) (node_texts l.tree l.nodes)
