use Rattle.xs_trace.proofs.CutLemmas.{cut-cut}
use Rattle.xs_trace.proofs.laws.cut_of_cut.Goals as goal

pub returns : goal.returns
returns g c = cut-cut
