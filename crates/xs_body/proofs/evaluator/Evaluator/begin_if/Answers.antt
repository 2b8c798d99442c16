use Rattle.std.proofs.Common.{◌∷◌, [], cond}
use Rattle.std.proofs.lemmas.Result.{err_from_is_err_and}
use Rattle.xs_trace.specs.Play.{Goes}
use Rattle.xs_trace.specs.Run.{limited}
use Rattle.xs_trace.proofs.GrowthLemmas.{goes-grows}
use Rattle.xs_body_spec.specs.World.{test_run}
use Rattle.xs_body.specs.steps.Frames.{inner, instrs_of, last, pushed, rest}
use Rattle.xs_body.proofs.ExitLemmas.{stack-exit}
use Rattle.xs_body.proofs.evaluator.Evaluator.begin_if.Goals as goal

pub returns-in_err-holds-clause-reported : goal.returns-in_err-holds-clause-reported
returns-in_err-holds-clause-reported g c =
    let p = err_from_is_err_and c.from_residual.result c.from_residual.ensures.1 in
    let t = c.args.self.now in
    stack-exit (λ x. x) (limited c.args.site (test_run t.world c.args.test.now c.args.scope.focus (last c.args.scope.seen t.slots))
    (g.R.Tally.state c.args.recorder.now))
    (λ b m. Goes (pushed (cond b (rest (instrs_of c.args.body.now) (inner c.args.scope) ∷ []) []) t) m) _ _ c.from_residual.result _ _
    (λ b. goes-grows _) p.1 p.2 c.in_err-holds.ensures.reported
