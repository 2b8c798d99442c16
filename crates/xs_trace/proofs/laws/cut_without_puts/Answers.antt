use Rattle.xs_trace.proofs.CutLemmas.{cut-without-puts}
use Rattle.xs_trace.proofs.laws.cut_without_puts.Goals as goal

pub returns : goal.returns
returns g c = cut-without-puts
