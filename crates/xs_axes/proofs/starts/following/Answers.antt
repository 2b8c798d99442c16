use Rattle.xs_tree.specs.Axis.{root_of}
use Rattle.xs_tree.specs.Shape.{EndsAt}
use Rattle.xs_axes.proofs.ForwardAxisLemmas.{axis-following}
use Rattle.xs_axes.proofs.starts.following.Goals as goal

pub returns-clause-left : goal.returns-clause-left
returns-clause-left c =
    let all : EndsAt c.args.tree.now (root_of c.args.tree.now c.args.node) c.subtree_end-2.result =
    rw (← c.root_of-root.ensures.root) c.subtree_end-2.ensures.end in
    axis-following c.args.tree.now c.args.node c.subtree_end.result c.subtree_end-2.result c.subtree_end-2.ensures.tree c.requires c.subtree_end.ensures.end all
