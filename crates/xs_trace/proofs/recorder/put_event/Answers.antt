use Rattle.std.proofs.Common.{ap, sym}
use Rattle.std.proofs.lemmas.Result.{err_from_is_err_and}
use Rattle.xs_trace.specs.Play.{and_then, put, ticked_by}
use Rattle.xs_trace.proofs.GrowthLemmas.{passes, put-grows}
use Rattle.xs_trace.proofs.recorder.put_event.Goals as goal

pub returns-in_err-ticks : goal.returns-in_err-ticks
returns-in_err-ticks g c =
    let p = err_from_is_err_and c.from_residual.result c.from_residual.ensures.1 in
    let e = ap (λ n. and_then (ticked_by n c.args.site (g.R.Tally.state c.args.recorder.now)) (λ u m. put c.args.event m)) (sym c.text_ticks.ensures.ticks) in
    record {
      reported = passes (λ x. x) (λ x. x) _ _ (λ u m. put c.args.event m) (g.R.Tally.state c.ticks.new.self) c.from_residual.result _ _ e
          (λ u. put-grows c.args.event) p.1 p.2 c.in_err-ticks.ensures.reported;
      kept = c.in_err-ticks.ensures.kept;
    }
