use Rattle.std.proofs.Common.{◌<◌, length, refl, rules, subst, sym}
use Rattle.std.proofs.lemmas.Result.{err_from_is_err_and}
use Rattle.xs_body.specs.steps.Frames.{Evaluation, instrs_of, lone_steps, made_of}
use Rattle.xs_body.proofs.ExitLemmas.{made-text-reported, stack-exit}
use Rattle.xs_body.proofs.GrowthLemmas.{made_of-grows}
use Rattle.xs_body.proofs.evaluator.Evaluator.begin_made.Goals as goal

pub returns-in_err-found-clause-reported : goal.returns-in_err-found-clause-reported
returns-in_err-found-clause-reported g c =
    let p = err_from_is_err_and c.from_residual.result c.from_residual.ensures.1 in
    let t = c.args.self.now in
    let body = c.args.body.now in
    stack-exit (λ x. x) (lone_steps (instrs_of body) c.args.scope t (g.R.Tally.state c.args.recorder.now))
    (λ text n. made_of text c.args.made body c.args.site c.args.scope t n) _ _ c.from_residual.result _ _
    (λ text. made_of-grows text c.args.made body c.args.site c.args.scope t) p.1 p.2 c.in_err-found.ensures.reported

pub returns-in-Some-clause-reported : goal.returns-in-Some-clause-reported
returns-in-Some-clause-reported g c =
    let t = c.args.self.now in
    let body = c.args.body.now in
    let s = g.R.Tally.state c.args.recorder.now in
    made-text-reported (lone_steps (instrs_of body) c.args.scope t s) _ c.in-Some.text c.args.made body c.args.site c.args.scope t _ _
    (g.R.Tally.state c.put_made.new.recorder) c.put_made.result c.in_ok-found.ensures.reported c.in-Some.is c.in_ok-found.ensures.same
    c.put_made.ensures.reported

pub begin_captured-requires-sync-K : goal.begin_captured-requires-sync-K
begin_captured-requires-sync-K g c κs within =
    let node = subst (λ (t : Evaluation). c.args.scope.focus.node < length t.world.tree) (sym c.in_ok-found.ensures.same) c.requires.node in
    (search rules, ((refl, tt), node))
