use Rattle.xs_core.proofs.GoodLemmas.{stays-good}
use Rattle.xs_core.proofs.laws.stays_good.Goals as goal

pub returns : goal.returns
returns c = stays-good
