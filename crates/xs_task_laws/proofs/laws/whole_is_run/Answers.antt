use Rattle.xs_task_laws.proofs.WholeLemmas.{whole-agrees}
use Rattle.xs_task_laws.proofs.laws.whole_is_run.Goals as goal

pub returns : goal.returns
returns c = whole-agrees
