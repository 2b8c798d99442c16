use Rattle.xs_compile.proofs.OneSheetLemmas.{one_sheet as law}
use Rattle.xs_compile.proofs.laws.one_sheet.Goals as goal

pub returns : goal.returns
returns c = law
