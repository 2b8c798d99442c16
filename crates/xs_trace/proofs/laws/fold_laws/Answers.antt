use Rattle.xs_trace.proofs.RunLemmas.{fold-laws}
use Rattle.xs_trace.proofs.laws.fold_laws.Goals as goal

pub returns : goal.returns
returns g c = fold-laws _ _ _
