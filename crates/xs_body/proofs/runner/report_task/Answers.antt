use Rattle.std.proofs.Common.{◌≡◌, ◌∙◌, ap, refl, rules, subst, sym, true}
use Rattle.std.specs.Option.{IsSome}
use Rattle.std.proofs.lemmas.List.Elements.{All-same}
use Rattle.xs_trace.specs.Play.{IsStep, Reported, play}
use Rattle.xs_value.specs.Conversion.{IsIn}
use Rattle.xs_body_spec.specs.Tasks.{Task}
use Rattle.xs_body_spec.specs.Trace.{task_trace}
use Rattle.xs_body_spec.specs.World.{World}
use Rattle.xs_body.specs.Inside.{IsTaskIn}
use Rattle.xs_body.specs.steps.Frames.{Evaluation}
use Rattle.xs_body.specs.steps.Jobs.{locals_of}
use Rattle.xs_body.proofs.LoopLemmas.{begun-world, task-starts}
use Rattle.xs_body.proofs.TaskLemmas.{locals-inside, starts-idle}
use Rattle.xs_body.proofs.runner.report_task.Goals as goal

pub new-evaluator-requires-clause-slots : goal.new-evaluator-requires-clause-slots
new-evaluator-requires-clause-slots g c κs within =
    let rs = c.args.world.now.tree in
    let job = c.args.task.now.job in
    All-same (IsIn rs) c.in_ok-locals.locals.items (locals_of job) c.in_ok-locals.ensures (locals-inside rs job c.requires.task.job)

pub begin_task-requires-clause-task : goal.begin_task-requires-clause-task
begin_task-requires-clause-task g c κs within =
    let w = ap (λ (u : Evaluation). u.world) c.new-evaluator.ensures in
    subst (λ (v : World). IsTaskIn v.tree c.args.task.now) (sym w) c.requires.task

pub begin_task-requires-clause-idle : goal.begin_task-requires-clause-idle
begin_task-requires-clause-idle g c κs within =
    starts-idle c.args.world.now c.args.task.now c.new-evaluator.result c.in_ok-locals.locals.items c.new-evaluator.ensures c.in_ok-locals.ensures

pub finish-requires-sync-K : goal.finish-requires-sync-K
finish-requires-sync-K g c κs within =
    let w = begun-world c.new-evaluator.result.world c.args.task.now c.begin_task.new.self c.in_ok-begin_task.ensures
    ∙ ap (λ (u : Evaluation). u.world) c.new-evaluator.ensures in
    (search rules, ((refl, tt), subst (λ (v : World). IsSome v.grain → g.R.Recorder.takes_holes ≡ true) (sym w) c.requires.holes))

pub returns-clause-reported : goal.returns-clause-reported
returns-clause-reported g c =
    let t = c.args.task.now in
    let s = g.R.Tally.state c.args.recorder.now in
    let w = ap (λ (u : Evaluation). u.world) c.new-evaluator.ensures in
    let e = ap (λ (v : World). play (task_trace v t) s) (sym w)
    ∙ task-starts c.new-evaluator.result.world t c.begin_task.new.self s c.in_ok-begin_task.ensures in
    subst (λ (h : Reported Task). IsStep h c.finish.result (g.R.Tally.state c.finish.new.recorder)) (sym e) c.finish.ensures.reported
