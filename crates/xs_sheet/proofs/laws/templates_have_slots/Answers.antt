use Rattle.xs_sheet.proofs.SlotLemmas.{templates_have_slots as law}
use Rattle.xs_sheet.proofs.laws.templates_have_slots.Goals as goal

pub returns : goal.returns
returns c = law
