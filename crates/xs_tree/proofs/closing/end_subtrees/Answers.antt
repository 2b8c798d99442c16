-- A step ends one subtree and goes to the parent.
use Rattle.std.proofs.Common.{arith, ◌-◌}
use Rattle.std.proofs.lemmas.Option.{slice_get-get_or}
use Rattle.xs_tree.specs.Closing.Closes.{nothing_left}
use Rattle.xs_tree.proofs.ClosingLemmas.{IsWalk-step}
use Rattle.xs_tree.proofs.closing.end_subtrees.Goals as goal

pub loop-node-init : goal.loop-node-init
loop-node-init c = (omega arith, c.requires.before, λ new rest. rest)

pub bounds-nodes-node : goal.bounds-nodes-node
bounds-nodes-node c = c.loop-node.invariant.0

pub loop-node-smaller : goal.loop-node-smaller
loop-node-smaller c = c.loop-node.invariant.1 c.loop-node.node _ c.loop-node-test.true
    (slice_get-get_or c.loop-node.nodes c.loop-node.node _ c.loop-node.invariant.0)

pub loop-node-preserved : goal.loop-node-preserved
loop-node-preserved c =
    IsWalk-step c.args.ancestor c.args.place c.args.nodes.now (c.args.place - 1) c.loop-node.nodes c.loop-node.node _
    (slice_get-get_or c.loop-node.nodes c.loop-node.node _ c.loop-node.invariant.0) c.loop-node-test.true c.loop-node.invariant

pub returns : goal.returns
returns c = record { closed = c.loop-node.invariant.2 c.loop-node.nodes (nothing_left c.loop-node-test.false) }
