use Rattle.xs_trace.proofs.KeptLemmas.{reported-is-cut}
use Rattle.xs_trace.proofs.laws.reported_is_cut.Goals as goal

pub returns : goal.returns
returns g c = reported-is-cut _
