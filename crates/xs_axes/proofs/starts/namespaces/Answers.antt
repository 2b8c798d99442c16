use Rattle.xs_axes.proofs.ForwardAxisLemmas.{axis-namespaces}
use Rattle.xs_axes.proofs.starts.namespaces.Goals as goal

pub returns-clause-left : goal.returns-clause-left
returns-clause-left c =
    rw c.place_after-from.ensures.place (axis-namespaces c.args.tree.now c.args.node c.place_after-from.ensures.tree c.requires)
