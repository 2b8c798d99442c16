use Rattle.std.proofs.Common.{◌≡◌, ◌<◌, length, refl, sym, ap, subst, rules, true}
use Rattle.std.specs.Option.{IsSome}
use Rattle.xs_body_spec.specs.World.{World}
use Rattle.xs_body.specs.steps.Frames.{Evaluation}
use Rattle.std.proofs.lemmas.Result.{err_from_is_err_and}
use Rattle.xs_trace.specs.Play.{ticked}
use Rattle.xs_body.specs.steps.Frames.{after, begun, pushed, rest_works}
use Rattle.xs_body.proofs.GrowthLemmas.{begun-grows}
use Rattle.xs_body.proofs.ExitLemmas.{stack-exit}
use Rattle.xs_body.proofs.evaluator.Evaluator.begin_next.Goals as goal

pub returns-in_err-tick-clause-reported : goal.returns-in_err-tick-clause-reported
returns-in_err-tick-clause-reported g c =
    let p = err_from_is_err_and c.from_residual.result c.from_residual.ensures.1 in
    let i = c.args.instr.now in
    let t = pushed (rest_works c.args.behind.now (after i.kind c.args.scope)) c.args.self.now in
    stack-exit (λ x. x) (ticked i.site (g.R.Tally.state c.args.recorder.now)) (λ u m. begun i.kind i.site c.args.scope t m) _ _ c.from_residual.result _ _
    (λ u. begun-grows i.kind i.site c.args.scope t) p.1 p.2 c.in_err-tick.ensures.reported

pub begin-requires-sync-K : goal.begin-requires-sync-K
begin-requires-sync-K g c κs within =
    let w = ap (λ (t : Evaluation). t.world) c.in_ok-push_rest.ensures.pushed in (
      search rules,
      (
        (refl, tt),
        subst (λ (v : World). (IsSome v.grain → g.R.Recorder.takes_holes ≡ true) × (c.args.scope.focus.node < length v.tree)) (sym w)
            (c.requires.holes, c.requires.node),
      ),
    )
