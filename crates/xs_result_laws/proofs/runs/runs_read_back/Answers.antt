use Rattle.xs_result_laws.proofs.RunLawLemmas as law
use Rattle.xs_result_laws.proofs.runs.runs_read_back.Goals as goal

pub returns : goal.returns
returns c = law.runs_read_back c.runs_are_named.ensures c.runs_put_results.ensures c.results_read_back.ensures
