use Rattle.std.proofs.Common.{sym}
use Rattle.xs_axes.proofs.ForwardAxisLemmas.{axis-parent, axis-no_parent}
use Rattle.xs_axes.proofs.starts.parent_alone.Goals as goal

pub returns-in-Some-clause-left : goal.returns-in-Some-clause-left
returns-in-Some-clause-left c =
    axis-parent c.args.tree.now c.args.node c.in-Some.parent c.in-Some.ensures.tree c.requires (sym c.in-Some.ensures.parent)

pub returns-in-None-clause-left : goal.returns-in-None-clause-left
returns-in-None-clause-left c = axis-no_parent c.args.tree.now c.args.node (sym c.in-None.ensures.parent)
