use Rattle.xs_result_laws.proofs.ResultLawLemmas as law
use Rattle.xs_result_laws.proofs.results.results_read_back.Goals as goal

pub returns : goal.returns
returns c = law.results_read_back c.lines_go_by_step.ensures c.documents_are_read.ensures c.names_resolve.ensures c.lines_go_on.ensures.lines
