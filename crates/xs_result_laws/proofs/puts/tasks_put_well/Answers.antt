use Rattle.xs_result_laws.proofs.PutLawLemmas as law
use Rattle.xs_result_laws.proofs.puts.tasks_put_well.Goals as goal

pub returns : goal.returns
returns c = law.tasks_put_well c.names_are_well.ensures c.copies_are_well.ensures
