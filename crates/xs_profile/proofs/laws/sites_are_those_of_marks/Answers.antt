use Rattle.xs_profile.proofs.SiteLemmas.{sites-same}
use Rattle.xs_profile.proofs.laws.sites_are_those_of_marks.Goals as goal

pub returns : goal.returns
returns g c = sites-same g.row.H.Denot
