use Rattle.std.proofs.Common.{refl}
use Rattle.std.specs.Cow.{cow_str_bytes}
use Rattle.std.specs.declared.alloc.Global.{Global}
use Rattle.std.proofs.lemmas.Result.{err_from_is_err_and}
use Rattle.xs_trace.proofs.GrowthLemmas.{passes}
use Rattle.xs_making.specs.Names.{pi_target}
use Rattle.xs_body.specs.steps.Making.{outcome_steps}
use Rattle.xs_body.proofs.MakingLemmas.{outcome-grows}
use Rattle.xs_body.proofs.evaluator.Evaluator.made_target.Goals as goal

pub returns-in_err-text-clause-reported : goal.returns-in_err-text-clause-reported
returns-in_err-text-clause-reported g c =
    let p = err_from_is_err_and c.from_residual.result c.from_residual.ensures.1 in
    passes (λ t. cow_str_bytes {Z = Global} t) (λ x. x) _ _ (λ text m. outcome_steps c.args.site (pi_target text) m) (g.R.Tally.state c.lend_template.new.tally)
    c.from_residual.result _ _ refl
    (λ text. outcome-grows c.args.site (pi_target text)) p.1 p.2 c.in_err-text.ensures.reported
