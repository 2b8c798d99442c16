use Rattle.std.proofs.Common.{sym, ap}
use Rattle.std.proofs.lemmas.Result.{err_from_is_err_and}
use Rattle.xs_trace.specs.Play.{and_then, put_at}
use Rattle.xs_trace.specs.declared.event.Event.TheVariants.{Start}
use Rattle.xs_trace.proofs.GrowthLemmas.{passes}
use Rattle.xs_body.specs.steps.Making.{spaces_steps}
use Rattle.xs_body.proofs.MakingLemmas.{spaces-grow}
use Rattle.xs_body.proofs.literals.put_literal_start.Goals as goal

pub returns-in_err-put_event-clause-reported : goal.returns-in_err-put_event-clause-reported
returns-in_err-put_event-clause-reported g c =
    let p = err_from_is_err_and c.from_residual-in_err-put_event.result c.from_residual-in_err-put_event.ensures.1 in
    let ls = c.args.aliases.now in
    let xs = c.args.start.now.spaces in
    let e = ap (λ l. and_then (put_at c.args.site (Start l) (g.R.Tally.state c.args.recorder.now)) (λ u m. spaces_steps ls c.args.site xs m))
    (sym c.in_ok-name.ensures.label) in
    passes (λ x. x) (λ x. x) _ _ (λ u m. spaces_steps ls c.args.site xs m) (g.R.Tally.state c.put_event.new.recorder)
    c.from_residual-in_err-put_event.result _ _ e (λ u. spaces-grow ls c.args.site xs) p.1 p.2 c.in_err-put_event.ensures.reported
