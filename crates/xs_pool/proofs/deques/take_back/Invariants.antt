use Rattle.std.proofs.Common.{◌≡◌, ◌<◌, ◌≤◌, ◌+◌, ℕ, length, map}
use Rattle.std.specs.List.{All}
use Rattle.crossbeam_deque.specs.Handles.{worker_deque}
use Rattle.xs_pool.specs.Owners.{all_given, all_taken, parts_of}
use Rattle.xs_pool.specs.Rights.{stolen_by, AreRights}
use Rattle.xs_pool.proofs.ListLemmas.{Halfway}
use Rattle.xs_pool.proofs.deques.take_back.Given as goal

abbrev pub invariant-loop-right : goal.invariant-loop-right
invariant-loop-right g l = record {
  count : length l.rights.items ≤ length l.owners.items;
  deques : map worker_deque l.owners.items ≡ map worker_deque l.fn.owners.items;
  rights : AreRights (map worker_deque l.fn.owners.items) l.rights.items;
  some : All (λ o. 0 < parts_of o) l.owners.items;
  parts : (p : ℕ) → All (λ o. parts_of o ≡ p) l.fn.owners.items →
      Halfway (λ o. parts_of o ≡ p) (λ o. parts_of o ≡ p + 1) (length l.rights.items) l.owners.items;
  given : (h : g.row.T.Denot → ℕ) → all_given h l.owners.items ≡ all_given h l.fn.owners.items;
  taken : (h : g.row.T.Denot → ℕ) → all_taken h l.owners.items + stolen_by h l.rights.items ≡ all_taken h l.fn.owners.items + stolen_by h l.fn.rights.items;
}

abbrev pub decreases-loop-right : goal.decreases-loop-right
decreases-loop-right g l = length l.rights.items
