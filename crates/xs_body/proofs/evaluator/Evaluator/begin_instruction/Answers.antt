use Rattle.std.proofs.lemmas.Result.{err_from_is_err_and}
use Rattle.xs_body_spec.specs.declared.made.Made.TheVariants as made
use Rattle.xs_body.specs.steps.Frames.{last, made_begun}
use Rattle.xs_body.specs.steps.Making.{target_steps}
use Rattle.xs_body.proofs.ExitLemmas.{stack-exit}
use Rattle.xs_body.proofs.GrowthLemmas.{made-grows}
use Rattle.xs_body.proofs.evaluator.Evaluator.begin_instruction.Goals as goal

pub returns-in_err-target-clause-reported : goal.returns-in_err-target-clause-reported
returns-in_err-target-clause-reported g c =
    let p = err_from_is_err_and c.from_residual.result c.from_residual.ensures.1 in
    let t = c.args.self.now in
    stack-exit (λ x. x)
    (target_steps t.world c.args.site c.args.scope.focus (last c.args.scope.seen t.slots) c.args.name.now (g.R.Tally.state c.args.recorder.now))
    (λ target m. made_begun (made.Instruction target) c.args.body.now c.args.site c.args.scope t m) _ _ c.from_residual.result _ _
    (λ target. made-grows (made.Instruction target) c.args.body.now c.args.site c.args.scope t) p.1 p.2 c.in_err-target.ensures.reported
