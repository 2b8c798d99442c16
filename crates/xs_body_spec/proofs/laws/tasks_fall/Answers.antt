use Rattle.xs_body_spec.proofs.RankLemmas.{tasks-fall}
use Rattle.xs_body_spec.proofs.laws.tasks_fall.Goals as goal

pub returns : goal.returns
returns c = tasks-fall
