use Rattle.xs_result_laws.proofs.RunLawLemmas as law
use Rattle.xs_result_laws.proofs.runs.runs_are_named.Goals as goal

pub returns : goal.returns
returns c = law.runs_are_named c.sheets_are_named.ensures c.documents_are_well.ensures c.stripped_are_well.ensures
