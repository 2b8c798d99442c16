use Rattle.xs_body_spec.proofs.IndexLemmas.{attempt-same, settling-same, task-same, value-same}
use Rattle.xs_body_spec.proofs.laws.index_is_free.Goals as goal

pub returns-clause-tasks : goal.returns-clause-tasks
returns-clause-tasks c = task-same

pub returns-clause-attempts : goal.returns-clause-attempts
returns-clause-attempts c = λ w index g. (attempt-same w index g, value-same w index g)

pub returns-clause-settling : goal.returns-clause-settling
returns-clause-settling c = λ w index given budget r s. settling-same w index budget given r s
