use Rattle.std.proofs.Common.{length, ◌/◌, ap, sym}
use Rattle.std.proofs.lemmas.Result.{err_from_is_err_and}
use Rattle.xs_trace.specs.State.{said}
use Rattle.xs_trace.specs.Play.{and_then, goes, ticked_by}
use Rattle.xs_trace.proofs.GrowthLemmas.{passes, said-grows}
use Rattle.xs_trace.proofs.recorder.say_message.Goals as goal

pub returns-in_err-ticks : goal.returns-in_err-ticks
returns-in_err-ticks g c =
    let p = err_from_is_err_and c.from_residual.result c.from_residual.ensures.1 in
    let e = ap (λ t. and_then (ticked_by (length t / 256) c.args.site (g.R.Tally.state c.args.recorder.now)) (λ u m. goes (said c.args.text m)))
    (sym c.as_str.ensures.text) in
    record {
      reported = passes (λ x. x) (λ x. x) _ _ (λ u m. goes (said c.args.text m)) (g.R.Tally.state c.ticks.new.self) c.from_residual.result _ _ e
          (λ u. said-grows c.args.text) p.1 p.2 c.in_err-ticks.ensures.reported;
      kept = c.in_err-ticks.ensures.kept;
    }
