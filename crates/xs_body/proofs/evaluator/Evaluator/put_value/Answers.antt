use Rattle.std.proofs.lemmas.Result.{err_from_is_err_and}
use Rattle.std.proofs.Common.{refl}
use Rattle.xs_trace.proofs.GrowthLemmas.{passes}
use Rattle.xs_body.specs.steps.Frames.{chars_steps}
use Rattle.xs_body.proofs.GrowthLemmas.{chars-grow}
use Rattle.xs_body.proofs.evaluator.Evaluator.put_value.Goals as goal

pub returns-in_err-text-clause-reported : goal.returns-in_err-text-clause-reported
returns-in_err-text-clause-reported g c =
    let p = err_from_is_err_and c.from_residual.result c.from_residual.ensures.1 in
    passes (λ x. x) (λ x. x) _ _ (λ t m. chars_steps c.args.site t m) (g.R.Tally.state c.text.new.tally) c.from_residual.result _ _ refl
    (λ t. chars-grow c.args.site t) p.1 p.2 c.in_err-text.ensures.reported
