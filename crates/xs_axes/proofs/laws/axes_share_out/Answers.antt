use Rattle.xs_axes.proofs.AxisLawLemmas.{axes-share_out}
use Rattle.xs_axes.proofs.laws.axes_share_out.Goals as goal

pub returns : goal.returns
returns c = axes-share_out
