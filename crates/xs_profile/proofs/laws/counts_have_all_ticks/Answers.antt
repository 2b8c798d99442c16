use Rattle.xs_profile.proofs.PartLemmas.{all-counted}
use Rattle.xs_profile.proofs.laws.counts_have_all_ticks.Goals as goal

pub returns : goal.returns
returns c = all-counted
