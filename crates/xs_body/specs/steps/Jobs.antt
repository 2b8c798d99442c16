-- What the code's jobs represent.
use Rattle.std.specs.Prelude.{List, []}
use Rattle.std.specs.Arc.{arc_value}
use Rattle.xs_value.specs.declared.value.Value.{Value}
use Rattle.xs_body.specs.declared.task.Job.{Job}
use Rattle.xs_body.specs.declared.task.Job.TheVariants.{Body, Rules}
use Rattle.xs_body_spec.specs.Tasks as tasks
use Rattle.xs_body_spec.specs.Tasks.{body_job, rules_job}

abbrev pub job_of : Job → tasks.Job
job_of (Body body locals) = body_job body.now (arc_value locals).items
job_of (Rules mode passed) = rules_job mode passed

-- the local variables that it sees
abbrev pub locals_of : tasks.Job → List Value
locals_of (body_job body vs) = vs
locals_of (rules_job mode ps) = []
