use Rattle.xs_core.proofs.OnceLemmas.{one-part}
use Rattle.xs_core.proofs.laws.one_part.Goals as goal

pub returns : goal.returns
returns c = one-part
