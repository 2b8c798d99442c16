-- Settled globals, by how settling ended.
use Rattle.std.proofs.Common.{◌≡◌, Some, None, subst}
use Rattle.xs_globals.specs.Results.{settled_by, settled_of, reported_in}
use Rattle.xs_globals.specs.declared.settled.Settled.{Settled}
use Rattle.xs_body_spec.specs.Globals.{SettlesAll, ended, settled}
use Rattle.xs_body_spec.specs.World.{World}
use Rattle.xs_trace.specs.declared.item.Spot.{Spot}
use Rattle.xs_reply.specs.Job.{Job}

module _ (job : Job) (w : World) (z : Settled) (settles : SettlesAll w job.given job.budget (settled_of z)) where
  pub all_settled : z.end ≡ None → SettlesAll w job.given job.budget (settled (reported_in z))
  all_settled none = subst (λ k. SettlesAll w job.given job.budget (settled_by k (reported_in z))) none settles

  pub ended_globals : (s : Spot) → z.end ≡ Some s → SettlesAll w job.given job.budget (ended (reported_in z) s)
  ended_globals s is = subst (λ k. SettlesAll w job.given job.budget (settled_by k (reported_in z))) is settles
