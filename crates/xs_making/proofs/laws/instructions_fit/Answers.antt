use Rattle.xs_making.proofs.LawLemmas.{instructions_fit, instructions_stay}
use Rattle.xs_making.proofs.laws.instructions_fit.Goals as goal

pub returns : goal.returns
returns c = record { fit = instructions_fit; stay = instructions_stay }
