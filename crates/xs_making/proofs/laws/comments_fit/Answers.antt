use Rattle.xs_making.proofs.LawLemmas.{comments_fit, comments_stay}
use Rattle.xs_making.proofs.laws.comments_fit.Goals as goal

pub returns : goal.returns
returns c = record { fit = comments_fit; stay = comments_stay }
