use Rattle.xs_result_laws.proofs.RunLemmas as run
use Rattle.xs_result_laws.proofs.puts.runs_put_results.Goals as goal

pub returns : goal.returns
returns c = run.runs_put_results c.tasks_put_well.ensures c.settled_are_named.ensures
