use Rattle.xs_axes.proofs.BackwardAxisLemmas.{axis-preceding}
use Rattle.xs_axes.proofs.starts.preceding.Goals as goal

pub returns-clause-left : goal.returns-clause-left
returns-clause-left c = rw c.place.ensures (axis-preceding c.args.tree.now c.args.node c.requires)
