use Rattle.xs_body_spec.specs.Trace.{task_trace}
use Rattle.xs_body_spec.proofs.NeedLemmas.{settled-needs, task-needs}
use Rattle.xs_body_spec.proofs.laws.settled_needs_nothing.Goals as goal

pub returns : goal.returns
returns c = λ w t a. settled-needs w.globals (task_trace w t) a (task-needs w t)
