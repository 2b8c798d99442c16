use Rattle.std.proofs.Common.{◌∷◌, refl, ap}
use Rattle.std.proofs.lemmas.Result.{err_from_is_err_and}
use Rattle.xs_trace.specs.Mark.{Put}
use Rattle.xs_trace.specs.Play.{and_then, play}
use Rattle.unit_tests.specs.Probe.{hole_for}
use Rattle.xs_trace.proofs.GrowthLemmas.{passes, play-grows}
use Rattle.unit_tests.proofs.probe.evaluate.Goals as goal

pub returns-in_err-tick-clause-reported : goal.returns-in_err-tick-clause-reported
returns-in_err-tick-clause-reported g c =
    let p = err_from_is_err_and c.from_residual.result c.from_residual.ensures.1 in
    passes (λ x. x) (λ x. x) _ _ (λ u m. play (Put c.args.event ∷ hole_for c.args.task) m) (g.R.Tally.state c.tick.new.self) c.from_residual.result _ _
    refl (λ u. play-grows (Put c.args.event ∷ hole_for c.args.task)) p.1 p.2 c.in_err-tick.ensures.reported

pub returns-in_err-put-clause-reported : goal.returns-in_err-put-clause-reported
returns-in_err-put-clause-reported g c =
    let p = err_from_is_err_and c.from_residual-in_err-put.result c.from_residual-in_err-put.ensures.1 in
    let e = ap (λ j. and_then j (λ u m. play (Put c.args.event ∷ hole_for c.args.task) m)) c.in_ok-tick.ensures.reported in
    passes (λ x. x) (λ x. x) _ _ (λ u m. play (hole_for c.args.task) m) (g.R.Tally.state c.put.new.self) c.from_residual-in_err-put.result _ _ e
    (λ u. play-grows (hole_for c.args.task)) p.1 p.2 c.in_err-put.ensures.reported
