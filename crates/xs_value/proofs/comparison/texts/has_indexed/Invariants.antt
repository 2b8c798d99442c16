use Rattle.std.proofs.Common.{◌≡◌, drop}
use Rattle.std.specs.List.{list_any}
use Rattle.xs_value.specs.TextIndexes.{is_indexed}
use Rattle.xs_value.specs.steps.Operands.{node_texts}
use Rattle.xs_value.proofs.comparison.texts.has_indexed.Given as goal

abbrev pub invariant-loop-node : goal.invariant-loop-node
invariant-loop-node l =
    list_any (is_indexed l.index.keys) (node_texts l.tree (drop l.node-index l.nodes)) ≡ list_any (is_indexed l.index.keys) (node_texts l.tree l.nodes)
