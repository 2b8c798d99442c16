use Rattle.std.proofs.Common.{◌<◌, length, refl, sym, ap, subst, ◌∙◌, rules}
use Rattle.xs_value.specs.Conversion.{IsIn}
use Rattle.xs_body_spec.specs.World.{World}
use Rattle.xs_body.specs.Inside.{AreValues}
use Rattle.xs_body.specs.declared.frames.ParamsLeft.{ParamsLeft}
use Rattle.xs_body.specs.steps.Frames.{Evaluation}
use Rattle.xs_body.proofs.PassedLemmas.{passed-inside}
use Rattle.std.proofs.lemmas.Result.{err_from_is_err_and}
use Rattle.xs_trace.specs.Play.{ticked}
use Rattle.std.proofs.Common.{◌∷◌, []}
use Rattle.xs_body_spec.specs.Tasks.{value_passed}
use Rattle.xs_body.specs.steps.Frames.{bound, param_begun, params_first, pushed}
use Rattle.xs_body.proofs.GrowthLemmas.{param-grows}
use Rattle.xs_body.proofs.ExitLemmas.{stack-exit}
use Rattle.xs_body.proofs.evaluator.Evaluator.bind_param.Goals as goal

pub returns-in_err-tick-clause-reported : goal.returns-in_err-tick-clause-reported
returns-in_err-tick-clause-reported g c =
    let p = err_from_is_err_and c.from_residual.result c.from_residual.ensures.1 in
    let a = c.args.left.value in
    let b = c.args.binding.now in
    let t = pushed (params_first a.left.now a.passed a.body.now (bound a.scope) ∷ []) c.args.self.now in
    let o = value_passed b.name a.passed in
    stack-exit (λ x. x) (ticked b.site (g.R.Tally.state c.args.recorder.now)) (λ u m. param_begun o b.content b.site a.scope t m) _ _ c.from_residual.result _ _
    (λ u. param-grows o b.content b.site a.scope t) p.1 p.2 c.in_err-tick.ensures.reported

pub bind-requires-sync-K : goal.bind-requires-sync-K
bind-requires-sync-K g c κs within =
    let rs = c.args.self.now.world.tree in
    let here = subst (λ (p : ParamsLeft). p.scope.focus.node < length rs) (sym c.deref.ensures) c.requires.left.node in
    let w = ap (λ (t : Evaluation). t.world) c.in_ok-push_params.ensures.pushed in
    (search rules, ((refl, tt), subst (λ (v : World). c.deref.result.now.scope.focus.node < length v.tree) (sym w) here))

pub fill-requires-clause-value : goal.fill-requires-clause-value
fill-requires-clause-value g c κs within =
    let rs = c.args.self.now.world.tree in
    let w = ap (λ (t : Evaluation). t.world) c.in_ok-push_params.ensures.pushed in
    subst (λ (v : World). IsIn v.tree c.in-Some.value) (sym w)
    (passed-inside (IsIn rs) c.args.binding.now.name c.deref-2.result.now.passed c.in-Some.value
    (subst (λ (p : ParamsLeft). AreValues rs p.passed.values) (sym c.deref-2.ensures) c.requires.left.passed)
    (sym c.in_ok-value.ensures.value ∙ c.in-Some.is))
