use Rattle.std.proofs.Common.{◌∷◌, []}
use Rattle.std.proofs.lemmas.Result.{err_from_is_err_and}
use Rattle.xs_trace.specs.Play.{Goes}
use Rattle.xs_trace.specs.Run.{limited}
use Rattle.xs_trace.proofs.GrowthLemmas.{goes-grows}
use Rattle.xs_body_spec.specs.World.{value_run}
use Rattle.xs_body.specs.steps.Frames.{filled_up, last}
use Rattle.xs_body.proofs.ExitLemmas.{stack-exit}
use Rattle.xs_body.proofs.evaluator.Evaluator.bind_selected.Goals as goal

pub returns-in_err-value-clause-reported : goal.returns-in_err-value-clause-reported
returns-in_err-value-clause-reported g c =
    let p = err_from_is_err_and c.from_residual.result c.from_residual.ensures.1 in
    let t = c.args.self.now in
    stack-exit (λ x. x) (limited c.args.site (value_run t.world c.args.expr.now c.args.scope.focus (last c.args.scope.seen t.slots))
    (g.R.Tally.state c.args.recorder.now))
    (λ v m. Goes (filled_up (v ∷ []) t) m) _ _ c.from_residual.result _ _
    (λ v. goes-grows _) p.1 p.2 c.in_err-value.ensures.reported
