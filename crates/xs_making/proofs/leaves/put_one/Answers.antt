use Rattle.std.proofs.Common.{subst}
use Rattle.xs_trace.specs.Play.{IsStep}
use Rattle.xs_making.proofs.PutLemmas.{event-alone}
use Rattle.xs_making.proofs.leaves.put_one.Goals as goal

pub returns-clause-reported : goal.returns-clause-reported
returns-clause-reported g c =
    subst (λ h. IsStep h c.put_event.result (g.R.Tally.state c.put_event.new.recorder))
    (event-alone c.args.site c.args.event (g.R.Tally.state c.args.recorder.now)) c.put_event.ensures.reported
