use Rattle.xs_axes.proofs.AxisLawLemmas.{axes-stay_inside}
use Rattle.xs_axes.proofs.laws.axes_stay_inside.Goals as goal

pub returns : goal.returns
returns c = axes-stay_inside
