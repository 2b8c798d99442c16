use Rattle.std.proofs.Common.{refl}
use Rattle.std.proofs.lemmas.Result.{err_from_is_err_and}
use Rattle.xs_trace.specs.Play.{ticked}
use Rattle.xs_trace.proofs.GrowthLemmas.{passes}
use Rattle.xs_body.specs.steps.Frames.{selected_text}
use Rattle.xs_body.proofs.GrowthLemmas.{selected_text-grows}
use Rattle.xs_body.proofs.evaluator.Evaluator.selected_alone.Goals as goal

pub returns-in_err-tick-clause-reported : goal.returns-in_err-tick-clause-reported
returns-in_err-tick-clause-reported g c =
    let p = err_from_is_err_and c.from_residual.result c.from_residual.ensures.1 in
    let select = c.args.select.now in
    let t = c.args.self.now in
    passes (λ x. x) (λ x. x) _ (ticked c.args.site (g.R.Tally.state c.args.recorder.now))
    (λ u m. selected_text select c.args.site c.args.scope t m) (g.R.Tally.state c.tick.new.self) c.from_residual.result _ _ refl
    (λ u. selected_text-grows select c.args.site c.args.scope t) p.1 p.2 c.in_err-tick.ensures.reported
