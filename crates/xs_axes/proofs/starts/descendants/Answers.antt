use Rattle.xs_axes.proofs.ForwardAxisLemmas.{axis-descendants}
use Rattle.xs_axes.proofs.starts.descendants.Goals as goal

pub returns-clause-left : goal.returns-clause-left
returns-clause-left c =
    rw c.place_after-from.ensures.place (axis-descendants c.args.tree.now c.args.node c.subtree_end-end.result
    c.place_after-from.ensures.tree c.requires c.subtree_end-end.ensures.end)
