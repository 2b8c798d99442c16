use Rattle.xs_trace.proofs.FillLemmas.{fill-laws}
use Rattle.xs_trace.proofs.laws.fill_laws.Goals as goal

pub returns : goal.returns
returns g c = fill-laws _ _
