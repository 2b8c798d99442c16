use Rattle.xs_core.proofs.GoodLemmas.{reaches-good}
use Rattle.xs_core.proofs.laws.reaches_good.Goals as goal

pub returns : goal.returns
returns c = reaches-good
