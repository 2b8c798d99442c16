use Rattle.xs_result_laws.proofs.RunLawLemmas as law
use Rattle.xs_result_laws.proofs.runs.sheets_are_named.Goals as goal

pub returns : goal.returns
returns c = law.sheets_are_named c.documents_are_well.ensures
