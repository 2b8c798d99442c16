use Rattle.std.proofs.Common.{◌≡◌, ap, refl, rules, subst, sym, true}
use Rattle.std.specs.Option.{IsSome}
use Rattle.xs_body_spec.specs.World.{World}
use Rattle.xs_body.specs.steps.Frames.{Evaluation}
use Rattle.std.proofs.lemmas.Result.{err_from_is_err_and}
use Rattle.xs_body.proofs.GlobalLemmas.{capture-exit, content-ends, content-exit}
use Rattle.xs_body.proofs.attempts.report_content.Goals as goal

pub returns-in_err-open_capture-clause-reported : goal.returns-in_err-open_capture-clause-reported
returns-in_err-open_capture-clause-reported g c =
    let p = err_from_is_err_and c.from_residual.result c.from_residual.ensures.1 in
    capture-exit c.args.world.now c.args.body.now (g.R.Tally.state c.args.recorder.now) (g.R.Tally.state c.open_capture.new.self) c.from_residual.result _ _
    p.1 p.2
    c.in_err-open_capture.ensures.reported

pub finish-requires-sync-K : goal.finish-requires-sync-K
finish-requires-sync-K g c κs within =
    let w = ap (λ (t : Evaluation). t.world) c.in_ok-evaluator.ensures.begun in
    (search rules, ((refl, tt), subst (λ (v : World). IsSome v.grain → g.R.Recorder.takes_holes ≡ true) (sym w) c.requires.holes))

pub returns-in_err-finish-clause-reported : goal.returns-in_err-finish-clause-reported
returns-in_err-finish-clause-reported g c =
    let p = err_from_is_err_and c.from_residual-in_err-finish.result c.from_residual-in_err-finish.ensures.1 in
    content-exit c.args.world.now c.args.body.now c.in_ok-evaluator.evaluator (g.R.Tally.state c.args.recorder.now) (g.R.Tally.state c.open_capture.new.self)
    (g.R.Tally.state c.finish.new.recorder) c.from_residual-in_err-finish.result _ _ c.in_ok-evaluator.ensures.begun c.in_ok-open_capture.ensures.reported p.1
    p.2
    c.in_err-finish.ensures.reported

pub returns-clause-reported : goal.returns-clause-reported
returns-clause-reported g c =
    content-ends c.args.world.now c.args.body.now c.in_ok-evaluator.evaluator (g.R.Tally.state c.args.recorder.now) (g.R.Tally.state c.open_capture.new.self)
    (g.R.Tally.state c.finish.new.recorder) _ _ _ c.in_ok-evaluator.ensures.begun c.in_ok-open_capture.ensures.reported c.in_ok-finish.ensures.reported
    c.close_capture-fragment.ensures.events c.close_capture-fragment.ensures.rest c.in_ok-fragment_value.ensures
