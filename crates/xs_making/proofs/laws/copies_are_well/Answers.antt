use Rattle.xs_making.proofs.WellLemmas.{copies_are_well}
use Rattle.xs_making.proofs.laws.copies_are_well.Goals as goal

pub returns : goal.returns
returns c = copies_are_well
