use Rattle.std.proofs.Common.{refl}
use Rattle.xs_body.specs.steps.Frames.{begun_with}
use Rattle.xs_body.proofs.LoopLemmas.{task-starts}
use Rattle.xs_body.proofs.laws.tasks_begin.Goals as goal

pub returns : goal.returns
returns c = λ w t s. task-starts w t (begun_with w t) s refl
