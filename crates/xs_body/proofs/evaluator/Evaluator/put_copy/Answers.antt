use Rattle.std.proofs.Common.{refl}
use Rattle.std.proofs.lemmas.Result.{err_from_is_err_and}
use Rattle.xs_trace.proofs.GrowthLemmas.{passes}
use Rattle.xs_body.specs.steps.Making.{copy_steps}
use Rattle.xs_body.proofs.MakingLemmas.{copies-grow}
use Rattle.xs_body.proofs.evaluator.Evaluator.put_copy.Goals as goal

pub returns-in_err-value-clause-reported : goal.returns-in_err-value-clause-reported
returns-in_err-value-clause-reported g c =
    let p = err_from_is_err_and c.from_residual.result c.from_residual.ensures.1 in
    let rs = c.args.self.now.world.tree in
    passes (λ x. x) (λ x. x) _ _ (λ v m. copy_steps rs c.args.site v m) (g.R.Tally.state c.value.new.tally) c.from_residual.result _ _ refl
    (λ v. copies-grow rs c.args.site v) p.1 p.2 c.in_err-value.ensures.reported
