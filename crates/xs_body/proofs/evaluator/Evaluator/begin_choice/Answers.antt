use Rattle.std.proofs.Common.{Bor, ◌∷◌, []}
use Rattle.std.proofs.lemmas.Result.{err_from_is_err_and}
use Rattle.xs_sheet.specs.declared.body.Body.{Body}
use Rattle.xs_trace.specs.Play.{Goes}
use Rattle.xs_trace.specs.Run.{limited}
use Rattle.xs_trace.proofs.GrowthLemmas.{goes-grows}
use Rattle.xs_body.specs.steps.Frames.{chosen, inner, instrs_of, last, pushed, rest}
use Rattle.xs_body.proofs.ExitLemmas.{stack-exit}
use Rattle.xs_body.proofs.evaluator.Evaluator.begin_choice.Goals as goal

pub returns-in_err-body-clause-reported : goal.returns-in_err-body-clause-reported
returns-in_err-body-clause-reported g c =
    let p = err_from_is_err_and c.from_residual.result c.from_residual.ensures.1 in
    let t = c.args.self.now in
    stack-exit (λ (b : Bor Body). b.now) (limited c.args.site (chosen c.args.choice.now t.world c.args.scope.focus (last c.args.scope.seen t.slots))
    (g.R.Tally.state c.args.recorder.now))
    (λ b m. Goes (pushed (rest (instrs_of b) (inner c.args.scope) ∷ []) t) m) _ _ c.from_residual.result _ _
    (λ b. goes-grows _) p.1 p.2 c.in_err-body.ensures.reported
