use Rattle.xs_trace.proofs.PlayLemmas.{captures-from}
use Rattle.xs_trace.proofs.laws.captures_from.Goals as goal

pub returns : goal.returns
returns g c = captures-from
