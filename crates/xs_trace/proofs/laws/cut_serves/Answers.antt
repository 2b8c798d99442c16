use Rattle.xs_trace.proofs.KnownLemmas.{cut-serves}
use Rattle.xs_trace.proofs.laws.cut_serves.Goals as goal

pub returns : goal.returns
returns g c = cut-serves
