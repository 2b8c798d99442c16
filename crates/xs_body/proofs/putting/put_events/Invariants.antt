use Rattle.std.proofs.Common.{◌≡◌, length}
use Rattle.xs_making.specs.Putting.{events_steps}
use Rattle.xs_body.proofs.putting.put_events.Given as goal

-- what is said of all is said of those that are left
abbrev pub invariant-loop-event : goal.invariant-loop-event
invariant-loop-event g l =
    (events_steps l.site l.events (g.R.Tally.state l.fn.recorder) ≡ events_steps l.site l.left (g.R.Tally.state l.recorder)) ×
    (g.R.Tally.kept l.recorder ≡ g.R.Tally.kept l.fn.recorder)

abbrev pub decreases-loop-event : goal.decreases-loop-event
decreases-loop-event g l = length l.left
