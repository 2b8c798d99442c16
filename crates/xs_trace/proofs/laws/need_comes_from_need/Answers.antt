use Rattle.xs_trace.proofs.KeptLemmas.{need-comes-from-need}
use Rattle.xs_trace.proofs.laws.need_comes_from_need.Goals as goal

pub returns : goal.returns
returns g c = need-comes-from-need _
