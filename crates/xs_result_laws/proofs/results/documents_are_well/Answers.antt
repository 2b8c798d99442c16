use Rattle.xs_result_laws.proofs.DocumentLemmas as law
use Rattle.xs_result_laws.proofs.results.documents_are_well.Goals as goal

pub returns : goal.returns
returns c = law.documents_are_well
