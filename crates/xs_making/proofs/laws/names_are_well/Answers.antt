use Rattle.xs_making.proofs.LawLemmas.{names_are_well}
use Rattle.xs_making.proofs.laws.names_are_well.Goals as goal

pub returns : goal.returns
returns c = names_are_well
