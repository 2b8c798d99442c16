use Rattle.std.proofs.Common.{Some, length, ◌/◌, ap, sym}
use Rattle.std.proofs.lemmas.Result.{err_from_is_err_and}
use Rattle.xs_trace.specs.Play.{Goes, and_then, ticked_by}
use Rattle.xs_trace.proofs.GrowthLemmas.{goes-grows, passes}
use Rattle.xs_body.proofs.lone.with_ticks.Goals as goal

pub returns-in_err-ticks-clause-reported : goal.returns-in_err-ticks-clause-reported
returns-in_err-ticks-clause-reported g c =
    let p = err_from_is_err_and c.from_residual.result c.from_residual.ensures.1 in
    let text = c.args.text in
    let e = ap (λ t. and_then (ticked_by (length t / 256) c.args.site (g.R.Tally.state c.args.recorder.now)) (λ u m. Goes (Some text) m))
    (sym c.as_str.ensures.text) in
    passes (λ x. x) (λ x. x) _ _ (λ u m. Goes (Some text) m) (g.R.Tally.state c.ticks.new.self) c.from_residual.result _ _ e
    (λ u. goes-grows (Some text)) p.1 p.2 c.in_err-ticks.ensures.reported
