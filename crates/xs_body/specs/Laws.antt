-- What is true of the steps of an evaluation.
use Rattle.std.specs.Prelude.{◌≡◌, [], ◌∷◌}
use Rattle.xs_trace.specs.State.{State}
use Rattle.xs_trace.specs.Play.{and_then, play}
use Rattle.xs_attribute_sets.specs.Indexed.{IsSetIndex}
use Rattle.xs_body_spec.specs.World.{World}
use Rattle.xs_body_spec.specs.Tasks.{Task}
use Rattle.xs_body_spec.specs.Trace.{task_trace}
use Rattle.xs_body.specs.steps.Frames.{Work, Evaluation, advanced, begun_with, pushed, stack_reported}

-- where the index of attribute sets is that of the stylesheet
abbrev pub StepsAgree : Type 0
StepsAgree = (b : Work) (t : Evaluation) (s : State Task) → IsSetIndex t.world.sheet.sets t.world.index →
    stack_reported (pushed (b ∷ []) t) s ≡ and_then (advanced b t s) stack_reported

abbrev pub TasksBegin : Type 0
TasksBegin = (w : World) (t : Task) (s : State Task) → play (task_trace w t) s ≡ stack_reported (begun_with w t) s
