use Rattle.xs_trace.proofs.CutLemmas.{cut-longest}
use Rattle.xs_trace.proofs.laws.cut_is_longest.Goals as goal

pub returns : goal.returns
returns g c = cut-longest
