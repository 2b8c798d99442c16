use Rattle.std.proofs.lemmas.Result.{err_from_is_err_and}
use Rattle.xs_trace.specs.Play.{Goes, put}
use Rattle.xs_trace.specs.declared.event.Event.TheVariants.{Start}
use Rattle.xs_trace.proofs.GrowthLemmas.{goes-grows}
use Rattle.xs_body.specs.steps.Frames.{inside_begun}
use Rattle.xs_body.proofs.ExitLemmas.{stack-exit}
use Rattle.xs_body.proofs.evaluator.Evaluator.begin_element.Goals as goal

pub returns-in_err-put-clause-reported : goal.returns-in_err-put-clause-reported
returns-in_err-put-clause-reported g c =
    let p = err_from_is_err_and c.from_residual.result c.from_residual.ensures.1 in
    let t = inside_begun c.args.sets.now c.args.body.now c.args.scope c.args.self.now in
    stack-exit (λ x. x) (put (Start c.args.name) (g.R.Tally.state c.args.recorder.now)) (λ u m. Goes t m) _ _ c.from_residual.result _ _
    (λ u. goes-grows t) p.1 p.2 c.in_err-put.ensures.reported
