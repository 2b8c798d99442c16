use Rattle.std.proofs.Common.{ℕ, List, Option, Some, ap}
use Rattle.std.proofs.lemmas.Result.{err_from_is_err_and}
use Rattle.xs_sheet.specs.declared.scoped.ValueTemplate.{ValueTemplate}
use Rattle.xs_trace.specs.Play.{Goes}
use Rattle.xs_trace.proofs.GrowthLemmas.{goes-grows, passes}
use Rattle.xs_body.specs.steps.Frames.{last}
use Rattle.xs_body.specs.steps.Making.{namespace_steps}
use Rattle.xs_body.proofs.evaluator.Evaluator.namespace.Goals as goal

pub returns-in_err-template-in-Some-clause-reported : goal.returns-in_err-template-in-Some-clause-reported
returns-in_err-template-in-Some-clause-reported g c =
    let p = err_from_is_err_and c.from_residual.result c.from_residual.ensures.1 in
    let w = c.args.self.now.world in
    let f = c.args.scope.focus in
    let vs = last c.args.scope.seen c.args.self.now.slots in
    let s = g.R.Tally.state c.args.recorder.now in
    passes {A = List ℕ} {B = Option (List ℕ)} {C = List ℕ} {D = Option (List ℕ)} (λ x. x) (λ x. x) _ _ (λ uri m. Goes (Some uri) m)
    (g.R.Tally.state c.template.new.tally) c.from_residual.result _ _
    (ap (λ (o : Option ValueTemplate). namespace_steps w c.args.site f vs o s) c.in-Some.is) (λ uri. goes-grows (Some uri)) p.1 p.2
    c.in_err-template-in-Some.ensures.reported
