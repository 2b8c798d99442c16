use Rattle.xs_core.proofs.WorkerLemmas.{workers-stay}
use Rattle.xs_core.proofs.laws.workers_stay.Goals as goal

pub returns : goal.returns
returns c = workers-stay
