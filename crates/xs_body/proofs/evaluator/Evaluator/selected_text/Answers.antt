use Rattle.std.proofs.Common.{refl}
use Rattle.std.proofs.lemmas.Result.{err_from_is_err_and}
use Rattle.xs_trace.proofs.GrowthLemmas.{passes}
use Rattle.xs_body.specs.steps.Making.{text_ticked}
use Rattle.xs_body.proofs.GrowthLemmas.{text_ticked-grows}
use Rattle.xs_body.proofs.evaluator.Evaluator.selected_text.Goals as goal

pub returns-in_err-text-clause-reported : goal.returns-in_err-text-clause-reported
returns-in_err-text-clause-reported g c =
    let p = err_from_is_err_and c.from_residual.result c.from_residual.ensures.1 in
    passes (λ x. x) (λ x. x) _ _ (λ text m. text_ticked c.args.site text m) (g.R.Tally.state c.text.new.tally) c.from_residual.result _ _ refl
    (text_ticked-grows c.args.site) p.1 p.2 c.in_err-text.ensures.reported
