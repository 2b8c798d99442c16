use Rattle.std.proofs.Common.{◌≡◌, ◌+◌, ℕ, length}
use Rattle.std.specs.List.{All}
use Rattle.xs_core.specs.Good.{total}
use Rattle.xs_pool.specs.Owners.{all_given, all_taken, parts_of}
use Rattle.xs_pool.specs.Rule.{all_parts}
use Rattle.xs_pool.proofs.deques.drain_all.Given as goal

abbrev pub invariant-loop-owner : goal.invariant-loop-owner
invariant-loop-owner g l = record {
  parts : All (λ o. parts_of o ≡ all_parts) l.owners.items;
  left : All g.K.Known.waits l.left.items;
  all : (h : g.row.T.Denot → ℕ) → (all_given h l.fn.owners.items + total h l.fn.left.items) + all_taken h l.owners.items
      ≡ (all_taken h l.fn.owners.items + total h l.left.items) + all_given h l.owners.items;
}

abbrev pub decreases-loop-owner : goal.decreases-loop-owner
decreases-loop-owner g l = length l.owners.items
