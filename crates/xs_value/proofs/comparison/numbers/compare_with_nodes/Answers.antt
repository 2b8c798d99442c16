use Rattle.std.proofs.Common.{arith, sym, ◌∙◌, ap, ◌+◌, drop, subst}
use Rattle.std.proofs.lemmas.List.{drop_all}
use Rattle.xs_value.specs.Comparison.{holds}
use Rattle.xs_value.proofs.MergeLemmas.{drop-next}
use Rattle.xs_value.proofs.RowLemmas.{Row, row-end, row-step}
use Rattle.xs_value.proofs.comparison.numbers.compare_with_nodes.Goals as goal

pub loop-node-preserved : goal.loop-node-preserved
loop-node-preserved c =
    subst (Row c.args.tree.now c.args.op c.args.x c.args.nodes.now (drop (c.loop-node.node-index + 1) c.args.nodes.now)) (sym c.further-furthest.ensures)
    (row-step c.args.tree.now c.args.op c.args.x c.in_ok-y.y c.loop-node.furthest c.node-item.result c.args.nodes.now
    (drop c.loop-node.node-index c.args.nodes.now) (drop (c.loop-node.node-index + 1) c.args.nodes.now)
    (drop-next c.args.nodes.now c.loop-node.node-index c.node-item.result (omega arith) c.node-item.is)
    c.in_ok-y.ensures (sym (c.if-holds.ensures ∙ ap (holds c.args.op) c.compare.ensures)) c.loop-node.invariant)

pub returns : goal.returns
returns c = row-end c.args.tree.now c.args.op c.args.x c.loop-node.furthest c.args.nodes.now (drop c.loop-node.node-index c.args.nodes.now)
    (drop_all c.loop-node.node-index c.args.nodes.now (omega arith)) c.requires.some c.loop-node.invariant
