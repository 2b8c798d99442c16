use Rattle.std.proofs.Common.{refl}
use Rattle.std.specs.Cow.{cow_str_bytes}
use Rattle.std.specs.declared.alloc.Global.{Global}
use Rattle.std.proofs.lemmas.Result.{err_from_is_err_and}
use Rattle.xs_trace.proofs.GrowthLemmas.{passes}
use Rattle.xs_body_spec.specs.Making.{attribute_label}
use Rattle.xs_body.specs.steps.Making.{named_steps}
use Rattle.xs_body.proofs.MakingLemmas.{named-grows}
use Rattle.xs_body.proofs.evaluator.Evaluator.put_literal.Goals as goal

pub returns-in_err-value-clause-reported : goal.returns-in_err-value-clause-reported
returns-in_err-value-clause-reported g c =
    let p = err_from_is_err_and c.from_residual.result c.from_residual.ensures.1 in
    let name = attribute_label c.args.self.now.world.sheet.aliases c.args.attribute.now.0 in
    passes (λ t. cow_str_bytes {Z = Global} t) (λ x. x) _ _ (λ text m. named_steps c.args.site name text m) (g.R.Tally.state c.lend_template.new.tally)
    c.from_residual.result _ _ refl
    (λ text. named-grows c.args.site name text) p.1 p.2 c.in_err-value.ensures.reported
