use Rattle.xs_task_laws.proofs.PlaceLemmas.{stay-inside}
use Rattle.xs_task_laws.proofs.laws.tasks_stay_inside.Goals as goal

pub returns : goal.returns
returns c = stay-inside
