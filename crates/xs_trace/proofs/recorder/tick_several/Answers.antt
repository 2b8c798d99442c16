use Rattle.std.proofs.Common.{refl, ap, ◌∙◌, ◌+◌, ◌-◌, arith}
use Rattle.std.proofs.lemmas.Result.{err_from_is_err_and}
use Rattle.xs_trace.specs.Play.{and_then, ticked_by}
use Rattle.xs_trace.proofs.GrowthLemmas.{passes, by-grows}
use Rattle.xs_trace.proofs.RunLemmas.{by-start, by-next, by-end}
use Rattle.xs_trace.proofs.recorder.tick_several.Goals as goal

pub loop-init : goal.loop-init
loop-init g c = (by-start c.args.site c.args.count (g.T.Tally.state c.args.tally.now), refl)

pub returns-in_err-tick-clause-reported : goal.returns-in_err-tick-clause-reported
returns-in_err-tick-clause-reported g c =
    let p = err_from_is_err_and c.from_residual.result c.from_residual.ensures.1 in
    passes (λ x. x) (λ x. x) _ _ (λ u m. ticked_by (c.args.count - (c.loop.counter + 1)) c.args.site m)
    (g.T.Tally.state c.tick.new.self) c.from_residual.result _ _
    (c.loop.invariant.0 ∙ by-next c.args.site c.args.count c.loop.counter (g.T.Tally.state c.loop.tally) (omega arith))
    (λ u. by-grows _ c.args.site) p.1 p.2 c.in_err-tick.ensures.reported

pub loop-preserved : goal.loop-preserved
loop-preserved g c = (
  c.loop.invariant.0 ∙ by-next c.args.site c.args.count c.loop.counter (g.T.Tally.state c.loop.tally) (omega arith) ∙ ap
      (λ j. and_then j (λ u m. ticked_by (c.args.count - (c.loop.counter + 1)) c.args.site m))
      c.in_ok-tick.ensures.reported,
  c.in_ok-tick.ensures.kept ∙ c.loop.invariant.1,
)

pub returns-clause-reported : goal.returns-clause-reported
returns-clause-reported g c = c.loop.invariant.0 ∙ by-end c.args.site c.args.count c.loop.counter (g.T.Tally.state c.loop.tally) (omega arith)
