use Rattle.std.proofs.Common.{take}
use Rattle.xs_value.specs.TextIndexes.{IsIndexOf}
use Rattle.xs_value.specs.steps.Operands.{node_texts}
use Rattle.xs_value.proofs.text_indexes.index_texts.Given as goal

abbrev pub invariant-loop-node : goal.invariant-loop-node
invariant-loop-node l = IsIndexOf l.index.keys (node_texts l.tree (take l.node-index l.nodes))
