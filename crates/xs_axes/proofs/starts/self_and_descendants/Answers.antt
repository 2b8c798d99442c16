use Rattle.xs_axes.proofs.ForwardAxisLemmas.{axis-self_and_descendants}
use Rattle.xs_axes.proofs.starts.self_and_descendants.Goals as goal

pub returns-clause-left : goal.returns-clause-left
returns-clause-left c =
    axis-self_and_descendants c.args.tree.now c.args.node c.subtree_end-end.result c.subtree_end-end.ensures.tree c.requires c.subtree_end-end.ensures.end
