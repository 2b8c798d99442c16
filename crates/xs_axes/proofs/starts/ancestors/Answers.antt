use Rattle.xs_axes.proofs.BackwardAxisLemmas.{axis-ancestors}
use Rattle.xs_axes.proofs.starts.ancestors.Goals as goal

pub returns-clause-left : goal.returns-clause-left
returns-clause-left c = axis-ancestors c.args.tree.now c.args.node c.len-count.ensures.tree c.requires
