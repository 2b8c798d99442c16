use Rattle.xs_profile.proofs.SiteLemmas.{as-many}
use Rattle.xs_profile.proofs.laws.sites_are_as_many_as_ticks.Goals as goal

pub returns : goal.returns
returns g c = as-many g.row.H.Denot
