use Rattle.xs_axes.proofs.AxisLawLemmas.{reverse-axes_go_back}
use Rattle.xs_axes.proofs.laws.reverse_axes_go_back.Goals as goal

pub returns : goal.returns
returns c = reverse-axes_go_back
