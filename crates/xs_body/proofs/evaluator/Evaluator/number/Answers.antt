use Rattle.std.proofs.Common.{refl}
use Rattle.std.proofs.lemmas.Result.{err_from_is_err_and}
use Rattle.xs_eval_spec.specs.Results.{given, numeric}
use Rattle.xs_eval_spec.proofs.StepLemmas.{continues, exits, goes_on}
use Rattle.xs_sort.proofs.GivenLemmas.{given-step}
use Rattle.xs_num.specs.declared.number.Number.{Number}
use Rattle.xs_value.specs.Conversion.{number_value}
use Rattle.xs_value.specs.declared.value.Value.{Value}
use Rattle.xs_body_spec.specs.World.{value_run}
use Rattle.xs_body.specs.steps.Frames.{last}
use Rattle.xs_body.proofs.evaluator.Evaluator.number.Goals as goal

pub returns-in_err-value-clause-reported : goal.returns-in_err-value-clause-reported
returns-in_err-value-clause-reported g c =
    let p = err_from_is_err_and c.from_residual.result c.from_residual.ensures.1 in
    let w = c.args.self.now.world in
    exits (λ (v : Value). v) (λ (n : Number). n) c.args.site
    (value_run w c.args.expr.now c.args.scope.focus (last c.args.scope.seen c.args.self.now.slots)) (λ v. given (numeric (number_value w.tree v))) _
    (g.T.Tally.state c.args.tally.now) (g.T.Tally.state c.value.new.tally) c.from_residual.result _ _ refl p.1 p.2 c.in_err-value.ensures.reported

pub returns-clause-reported : goal.returns-clause-reported
returns-clause-reported g c =
    let w = c.args.self.now.world in
    let v = c.in_ok-value.value in
    let m = g.T.Tally.state c.value.new.tally in
    continues (λ (n : Number). n) _ _ c.number_in.result m
    (goes_on c.args.site (value_run w c.args.expr.now c.args.scope.focus (last c.args.scope.seen c.args.self.now.slots))
    (λ x. given (numeric (number_value w.tree x))) v (g.T.Tally.state c.args.tally.now) m c.in_ok-value.ensures.reported)
    (given-step c.args.site (given (numeric (number_value w.tree v))) m c.number_in.result c.number_in.ensures)
