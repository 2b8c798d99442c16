use Rattle.xs_body_spec.proofs.NeedLemmas.{attempt-needs, task-needs}
use Rattle.xs_body_spec.proofs.laws.need_is_unsettled.Goals as goal

pub returns-clause-tasks : goal.returns-clause-tasks
returns-clause-tasks c = task-needs

pub returns-clause-attempts : goal.returns-clause-attempts
returns-clause-attempts c = attempt-needs
