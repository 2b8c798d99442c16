use Rattle.std.proofs.Common.{◌≡◌, ◌∷◌, ap, ◌∙◌, rules}
use Rattle.std.proofs.lemmas.Result.{err_from_is_err_and}
use Rattle.xs_trace.specs.Play.{put_at}
use Rattle.xs_trace.proofs.GrowthLemmas.{passes}
use Rattle.xs_making.specs.Putting.{events_steps}
use Rattle.xs_making.proofs.PutLemmas.{events-grow}
use Rattle.xs_body.proofs.putting.put_events.Goals as goal

pub returns-in_err-put_copied-clause-reported : goal.returns-in_err-put_copied-clause-reported
returns-in_err-put_copied-clause-reported g c =
    let p = err_from_is_err_and c.from_residual.result c.from_residual.ensures.1 in
    let e : c.loop-event.left.now ≡ (c.in-Some.event.now ∷ c.in-Some.behind.now) = search rules in
    let s = g.R.Tally.state c.loop-event.recorder in
    passes (λ x. x) (λ x. x) _ (put_at c.args.site c.in-Some.event.now s) (λ u m. events_steps c.args.site c.in-Some.behind.now m)
    (g.R.Tally.state c.put_copied.new.recorder) c.from_residual.result _ _
    (c.loop-event.invariant.0 ∙ ap (λ es. events_steps c.args.site es s) e) (λ u. events-grow c.args.site c.in-Some.behind.now) p.1 p.2
    c.in_err-put_copied.ensures.reported
