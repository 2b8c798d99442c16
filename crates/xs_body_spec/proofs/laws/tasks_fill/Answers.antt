use Rattle.xs_body_spec.proofs.GrainLemmas.{task-filled}
use Rattle.xs_body_spec.proofs.laws.tasks_fill.Goals as goal

pub returns : goal.returns
returns c = task-filled
