use Rattle.xs_body_spec.proofs.FullLemmas.{tasks-begin}
use Rattle.xs_body_spec.proofs.laws.tasks_begin.Goals as goal

pub returns : goal.returns
returns c = tasks-begin
