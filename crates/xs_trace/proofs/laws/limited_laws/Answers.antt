use Rattle.xs_trace.proofs.RunLemmas.{limited-laws}
use Rattle.xs_trace.proofs.laws.limited_laws.Goals as goal

pub returns : goal.returns
returns g c = limited-laws _ _ _
