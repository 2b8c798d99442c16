use Rattle.std.proofs.Common.{◌≡◌, map, take}
use Rattle.crossbeam_deque.specs.Handles.{worker_deque, stealer_deque}
use Rattle.xs_pool.proofs.deques.thieves_of.Given as goal

abbrev pub invariant-loop-owner : goal.invariant-loop-owner
invariant-loop-owner g l = map stealer_deque l.thieves.items ≡ take l.owner-index (map worker_deque l.owners)
