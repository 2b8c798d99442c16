use Rattle.xs_trace.proofs.CutLemmas.{parts-join}
use Rattle.xs_trace.proofs.laws.parts_of_joined.Goals as goal

pub returns : goal.returns
returns g c = parts-join
