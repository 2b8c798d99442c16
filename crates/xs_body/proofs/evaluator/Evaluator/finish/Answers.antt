use Rattle.std.proofs.Common.{◌≡◌, refl, sym, ap, ◌∙◌, subst, rules, true}
use Rattle.std.proofs.lemmas.Result.{err_from_is_err_and}
use Rattle.std.specs.Option.{IsSome}
use Rattle.xs_body_spec.specs.World.{World}
use Rattle.xs_body.specs.steps.Frames.{Evaluation, stack_reported, work_of}
use Rattle.xs_body.proofs.LoopLemmas.{goes-on, breaks-off}
use Rattle.xs_body.proofs.WorldLemmas.{same-world}
use Rattle.xs_body.proofs.evaluator.Evaluator.finish.Goals as goal

pub advance-requires-sync-K : goal.advance-requires-sync-K
advance-requires-sync-K g c κs within =
    let w = sym (ap (λ (t : Evaluation). t.world) c.in-Some.ensures.popped) ∙ c.loop-turn.invariant.0 in
    (search rules, ((refl, tt), (subst (λ (v : World). IsSome v.grain → g.R.Recorder.takes_holes ≡ true) (sym w) c.requires.holes, c.in-Some.ensures.first)))

pub returns-in_err-advance-in-Some-clause-reported : goal.returns-in_err-advance-in-Some-clause-reported
returns-in_err-advance-in-Some-clause-reported g c =
    let p = err_from_is_err_and c.from_residual.result c.from_residual.ensures.1 in
    breaks-off (stack_reported c.args.self.now (g.R.Tally.state c.args.recorder.now)) c.loop-turn.self c.pop.new.self c.advance.new.self
    (work_of c.in-Some.frame)
    (g.R.Tally.state c.loop-turn.recorder) (g.R.Tally.state c.advance.new.recorder) c.from_residual.result _ _ c.pop.ensures.world.sets
    c.loop-turn.invariant.1.0 c.in-Some.ensures.popped p.1 p.2 c.in_err-advance-in-Some.ensures.reported

pub loop-turn-preserved : goal.loop-turn-preserved
loop-turn-preserved g c =
    let k = stack_reported c.args.self.now (g.R.Tally.state c.args.recorder.now) in
    let b = work_of c.in-Some.frame in
    let s = g.R.Tally.state c.loop-turn.recorder in
    let m = g.R.Tally.state c.advance.new.recorder in
    let reported = c.in_ok-advance-in-Some.ensures.reported in
    let w = sym (ap (λ (t : Evaluation). t.world) c.in-Some.ensures.popped) ∙ c.loop-turn.invariant.0 in (
      same-world b c.pop.new.self c.advance.new.self s m reported ∙ w,
      (
        goes-on k c.loop-turn.self c.pop.new.self c.advance.new.self b s m c.pop.ensures.world.sets c.loop-turn.invariant.1.0 c.in-Some.ensures.popped reported,
        c.advance.ensures.kept ∙ c.loop-turn.invariant.1.1,
      ),
    )
