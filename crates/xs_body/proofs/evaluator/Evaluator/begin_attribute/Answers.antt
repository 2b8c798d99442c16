use Rattle.std.proofs.lemmas.Result.{err_from_is_err_and}
use Rattle.std.proofs.Common.{◌<◌, length, refl, rules, subst, sym, true}
use Rattle.xs_body_spec.specs.declared.made.Made.TheVariants as made
use Rattle.xs_body.specs.steps.Frames.{Evaluation, last, made_begun}
use Rattle.xs_body.specs.steps.Making.{name_steps}
use Rattle.xs_body.proofs.ExitLemmas.{stack-exit}
use Rattle.xs_body.proofs.GrowthLemmas.{made-grows}
use Rattle.xs_body.proofs.evaluator.Evaluator.begin_attribute.Goals as goal

pub returns-in_err-name-clause-reported : goal.returns-in_err-name-clause-reported
returns-in_err-name-clause-reported g c =
    let p = err_from_is_err_and c.from_residual.result c.from_residual.ensures.1 in
    let t = c.args.self.now in
    stack-exit (λ x. x)
    (name_steps t.world c.args.site c.args.scope.focus (last c.args.scope.seen t.slots) true c.args.name.now (g.R.Tally.state c.args.recorder.now))
    (λ label m. made_begun (made.Attribute label) c.args.body.now c.args.site c.args.scope t m) _ _ c.from_residual.result _ _
    (λ label. made-grows (made.Attribute label) c.args.body.now c.args.site c.args.scope t) p.1 p.2 c.in_err-name.ensures.reported

pub begin_made-requires-sync-K : goal.begin_made-requires-sync-K
begin_made-requires-sync-K g c κs within =
    let node = subst (λ (t : Evaluation). c.args.scope.focus.node < length t.world.tree) (sym c.in_ok-name.ensures.same) c.requires.node in
    (search rules, ((refl, tt), node))
