use Rattle.xs_result_laws.proofs.RunLemmas as run
use Rattle.xs_result_laws.proofs.puts.stripped_are_well.Goals as goal

pub returns : goal.returns
returns c = run.stripped_are_well
