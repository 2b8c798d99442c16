use Rattle.std.proofs.Common.{◌≡◌, length, map}
use Rattle.xs_trace.specs.Mark.{Hole}
use Rattle.xs_trace.specs.Play.{play}
use Rattle.xs_body_spec.specs.Tasks.{shared}
use Rattle.xs_body.specs.steps.Sharing.{share_of, shares}
use Rattle.xs_body.proofs.tasks.leave.Given as goal

-- the holes of the whole run are those of the nodes that are left, behind those that were reported
abbrev pub invariant-loop-node : goal.invariant-loop-node
invariant-loop-node g l =
    (play (map Hole (shared l.grain l.grain l.fn.task l.fn.nodes)) (g.R.Tally.state l.fn.recorder)
    ≡ shares l.grain (share_of l.sharing) l.left (g.R.Tally.state l.recorder)) ×
    (g.R.Tally.kept l.recorder ≡ g.R.Tally.kept l.fn.recorder)

abbrev pub decreases-loop-node : goal.decreases-loop-node
decreases-loop-node g l = length l.left
