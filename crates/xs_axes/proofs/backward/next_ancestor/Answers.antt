use Rattle.std.proofs.Common.{sym}
use Rattle.xs_axes.proofs.BackwardAxisLemmas.{ancestors-step, ancestors-none}
use Rattle.xs_axes.proofs.backward.next_ancestor.Goals as goal

pub returns-in_err-parent-clause-step : goal.returns-in_err-parent-clause-step
returns-in_err-parent-clause-step c =
    rw c.from_residual.ensures (ancestors-none c.args.tree.now c.args.node (sym c.in_err-parent.ensures.parent))

pub returns-clause-step : goal.returns-clause-step
returns-clause-step c =
    ancestors-step c.args.tree.now c.args.node c.in_ok-parent.parent c.parent.ensures.tree c.requires (sym c.in_ok-parent.ensures.parent)
