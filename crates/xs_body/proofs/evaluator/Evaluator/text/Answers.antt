use Rattle.std.proofs.lemmas.Result.{err_from_is_err_and}
use Rattle.xs_trace.specs.Run.{give, limited}
use Rattle.xs_trace.proofs.GrowthLemmas.{passes}
use Rattle.xs_trace.proofs.RunLemmas.{limited-bind, limited-grows}
use Rattle.xs_value.specs.Conversion.{text_value}
use Rattle.xs_body_spec.specs.World.{value_run}
use Rattle.xs_body.specs.steps.Frames.{last}
use Rattle.xs_body.proofs.evaluator.Evaluator.text.Goals as goal

pub returns-in_err-value-clause-reported : goal.returns-in_err-value-clause-reported
returns-in_err-value-clause-reported g c =
    let p = err_from_is_err_and c.from_residual.result c.from_residual.ensures.1 in
    let r = value_run c.args.self.now.world c.args.expr.now c.args.scope.focus (last c.args.scope.seen c.args.self.now.slots) in
    passes (λ v. v) (λ x. x) _ _ (λ v m. limited c.args.site (give (text_value c.args.self.now.world.tree v)) m) (g.T.Tally.state c.value.new.tally)
    c.from_residual.result _ _
    (limited-bind c.args.site r (λ v. give (text_value c.args.self.now.world.tree v))
    (g.T.Tally.state c.args.tally.now))
    (λ v. limited-grows c.args.site (give (text_value c.args.self.now.world.tree v))) p.1 p.2 c.in_err-value.ensures.reported
