use Rattle.std.proofs.Common.{◌<◌, length, refl, rules, subst, sym}
use Rattle.std.proofs.lemmas.Result.{err_from_is_err_and}
use Rattle.xs_body.specs.steps.Frames.{Evaluation, literal_inside}
use Rattle.xs_body.specs.steps.Making.{literal_steps}
use Rattle.xs_body.proofs.ExitLemmas.{stack-exit}
use Rattle.xs_body.proofs.GrowthLemmas.{literal_inside-grows}
use Rattle.xs_body.proofs.evaluator.Evaluator.begin_literal.Goals as goal

pub returns-in_err-put_start-clause-reported : goal.returns-in_err-put_start-clause-reported
returns-in_err-put_start-clause-reported g c =
    let p = err_from_is_err_and c.from_residual.result c.from_residual.ensures.1 in
    let start = c.args.start.now in
    let body = c.args.body.now in
    let t = c.args.self.now in
    stack-exit (λ x. x) (literal_steps t.world.sheet.aliases c.args.site start (g.R.Tally.state c.args.recorder.now))
    (λ u m. literal_inside start body c.args.site c.args.scope t m) _ _ c.from_residual.result _ _
    (λ u. literal_inside-grows start body c.args.site c.args.scope t) p.1 p.2 c.in_err-put_start.ensures.reported

pub begin_inside-requires-sync-K : goal.begin_inside-requires-sync-K
begin_inside-requires-sync-K g c κs within =
    let node = subst (λ (t : Evaluation). c.args.scope.focus.node < length t.world.tree) (sym c.in_ok-put_start.ensures.same) c.requires.node in
    (search rules, ((refl, tt), node))
