use Rattle.std.proofs.Common.{◌-◌, ◌<◌, ◌≤◌}
use Rattle.xs_block.specs.Chain.{spare_of}
use Rattle.xs_block.proofs.pool.Pool.reserve.Given as goal

abbrev pub invariant-loop-self : goal.invariant-loop-self
invariant-loop-self g l = (l.initial.self ≤ l.self) × (l.initial.self < l.self → spare_of (l.self - 1) l.chain < l.n)

abbrev pub decreases-loop-self : goal.decreases-loop-self
decreases-loop-self g l = l.n - spare_of l.self l.chain
