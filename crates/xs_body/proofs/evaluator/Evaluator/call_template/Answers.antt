use Rattle.std.proofs.lemmas.Result.{err_from_is_err_and}
use Rattle.xs_trace.specs.Play.{ticked}
use Rattle.xs_body.proofs.GrowthLemmas.{entering-grows}
use Rattle.xs_body.specs.steps.Frames.{entering}
use Rattle.xs_body_spec.specs.Trace.{named}
use Rattle.xs_body.proofs.ExitLemmas.{stack-exit}
use Rattle.xs_body.proofs.evaluator.Evaluator.call_template.Goals as goal

pub returns-in_err-tick-clause-reported : goal.returns-in_err-tick-clause-reported
returns-in_err-tick-clause-reported g c =
    let p = err_from_is_err_and c.from_residual.result c.from_residual.ensures.1 in
    let e = named c.args.template c.args.passed in
    let t = c.args.self.now in
    stack-exit (λ x. x) (ticked c.args.site (g.R.Tally.state c.args.recorder.now))
    (λ u m. entering e c.args.site c.args.focus t m) _ _ c.from_residual.result _ _
    (λ u. entering-grows e c.args.site c.args.focus t) p.1 p.2 c.in_err-tick.ensures.reported
