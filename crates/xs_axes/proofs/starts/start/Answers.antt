use Rattle.xs_axes.proofs.ForwardAxisLemmas.{axis-self}
use Rattle.xs_axes.proofs.starts.start.Goals as goal

pub returns-in-SelfNode-clause-left : goal.returns-in-SelfNode-clause-left
returns-in-SelfNode-clause-left c = rw c.in-SelfNode.is (axis-self c.args.tree.now c.args.node c.requires)
