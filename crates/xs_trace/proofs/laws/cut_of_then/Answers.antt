use Rattle.xs_trace.proofs.CutLemmas.{cut-then}
use Rattle.xs_trace.proofs.laws.cut_of_then.Goals as goal

pub returns : goal.returns
returns g c = cut-then
