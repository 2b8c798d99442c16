use Rattle.std.proofs.Common.{◌≡◌, IfOk, refl, rules, subst, sym}
use Rattle.std.specs.List.{All}
use Rattle.std.specs.Option.{IsSome}
use Rattle.xs_record.specs.Piece.{IsPiece}
use Rattle.xs_body.specs.Inside.{IsTaskIn}
use Rattle.xs_body_spec.specs.Trace.{task_trace}
use Rattle.xs_body_spec.specs.World.{World}
use Rattle.xs_body.proofs.WholeLemmas.{piece-is, task-settled}
use Rattle.xs_body.proofs.runner.SheetRunner.run.Goals as goal

pub report_task-reported-requires-sync-K : goal.report_task-reported-requires-sync-K
report_task-reported-requires-sync-K g c κs within =
    let v : c.self.inside.world ≡ c.args.self.now = c.self.view_is in
    (search rules, ((refl, tt), (λ some. refl, subst (λ (x : World). IsTaskIn x.tree c.args.task.now) (sym v) c.requires.task)))

pub finish-requires : goal.finish-requires
finish-requires g c =
    let v : c.self.inside.world ≡ c.args.self.now = c.self.view_is in
    let w : World = c.self.inside.world in
    let all : All IsSome w.globals = subst (λ (x : World). All IsSome x.globals) (sym v) c.requires.settled in
    record { settled = task-settled w c.args.task.now _ _ c.report_task-reported.result all c.report_task-reported.ensures.reported }

pub returns-clause-piece : goal.returns-clause-piece
returns-clause-piece g c =
    let v : c.self.inside.world ≡ c.args.self.now = c.self.view_is in
    subst (λ (x : World). IfOk c.finish.result.outcome (λ o. IsPiece (task_trace x c.args.task.now) c.args.limits (g.T.Total.most c.args.total)
    (g.T.Total.added c.args.total) (g.T.Total.added c.finish.result.total) (g.T.Total.last c.finish.result.total) c.args.children.now.items
    c.finish.new.children.items o)) v
    (piece-is c.finish.result.outcome (task_trace c.self.inside.world c.args.task.now) c.args.limits (g.T.Total.kept c.args.total)
    (g.T.Total.most c.args.total) (g.T.Total.last c.args.total) (g.T.Total.added c.args.total) c.args.pool _ _ c.report_task-reported.result _ _ _ _ _ _
    c.report_task-reported.ensures.kept c.new-recorder.ensures.kept c.new-recorder.ensures.begins c.report_task-reported.ensures.reported
    c.finish.ensures.piece)
