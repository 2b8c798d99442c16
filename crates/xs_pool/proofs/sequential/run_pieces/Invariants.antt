use Rattle.std.proofs.Common.{◌≡◌, ◌≤◌, ◌+◌, ◌-◌, map}
use Rattle.std.specs.List.{All}
use Rattle.xs_pieces.specs.Collection.{claimed_in}
use Rattle.xs_pool.specs.steps.Running.{IsRun}
use Rattle.xs_pool.proofs.sequential.run_pieces.Given as goal

abbrev pub invariant-loop-next : goal.invariant-loop-next
invariant-loop-next g l = record {
  run : IsRun (g.R.Runner.is_own l.runner) (g.R.Runner.place_of l.runner) (g.R.Runner.own l.runner) l.fn.root l.limits l.next
      (g.T.Total.added l.desk.share) l.pieces.items;
  most : g.T.Total.most l.desk.share ≡ l.limits.ticks;
  last : g.T.Total.last l.desk.share ≤ l.limits.ticks;
  kept : g.T.Total.kept l.desk.share ≡ g.T.Total.kept l.fn.desk.share;
  claims : map (λ c. c.place) l.claims.items ≡ claimed_in (g.R.Runner.place_of l.runner) l.pieces.items;
  workers : All (λ c. c.worker ≡ 0) l.claims.items;
}

-- a piece takes a tick at least, and where there are none, the root is alone
abbrev pub decreases-loop-next : goal.decreases-loop-next
decreases-loop-next g l = (l.limits.ticks + 1 - g.T.Total.added l.desk.share) + (1 - l.next)
