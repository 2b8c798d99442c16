use Rattle.std.proofs.Common.{length, refl, rules}
use Rattle.xs_body.proofs.TaskLemmas.{begins-loop, begins-rules}
use Rattle.xs_body.proofs.evaluator.Evaluator.begin_task.Goals as goal

pub returns-in-Body : goal.returns-in-Body
returns-in-Body g c =
    let locals = c.as_slice-locals.result.now in
    begins-loop c.args.task.now c.args.self.now c.begin_loop.new.self c.in-Body.body.now locals (length locals) c.begin_loop.result
    (search rules) refl c.requires.idle c.begin_loop.ensures

pub returns-in-Rules : goal.returns-in-Rules
returns-in-Rules g c =
    begins-rules c.args.task.now c.args.self.now c.begin_rules.new.self c.in-Rules.mode c.in-Rules.passed c.begin_rules.result
    (search rules) c.requires.idle c.begin_rules.ensures
