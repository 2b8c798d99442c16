use Rattle.xs_trace.proofs.KnownLemmas.{numbered-laws}
use Rattle.xs_trace.proofs.laws.numbered_laws.Goals as goal

pub returns : goal.returns
returns g c = numbered-laws _
