use Rattle.xs_axes.proofs.BackwardAxisLemmas.{axis-self_and_ancestors}
use Rattle.xs_axes.proofs.starts.self_and_ancestors.Goals as goal

pub returns-clause-left : goal.returns-clause-left
returns-clause-left c = axis-self_and_ancestors c.args.tree.now c.args.node c.len-count.ensures.tree c.requires
