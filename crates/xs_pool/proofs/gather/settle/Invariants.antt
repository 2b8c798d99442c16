use Rattle.std.proofs.Common.{◌≡◌, ◌<◌, ◌+◌, ℕ, length, map}
use Rattle.std.specs.List.{All}
use Rattle.crossbeam_deque.specs.Handles.{worker_deque}
use Rattle.xs_core.specs.Good.{total}
use Rattle.xs_pool.specs.Owners.{all_given, all_taken, parts_of}
use Rattle.xs_pool.specs.Rights.{stolen_by, AreRights}
use Rattle.xs_pool.specs.Rule.{all_parts}
use Rattle.xs_pool.proofs.gather.settle.Given as goal

abbrev pub invariant-loop-row : goal.invariant-loop-row
invariant-loop-row g l = record {
  few : length l.rows.items < 65;
  deques : map worker_deque l.owners.items ≡ map worker_deque l.fn.owners.items;
  parts : All (λ o. parts_of o + length l.rows.items ≡ all_parts) l.owners.items;
  rights : All (λ r. AreRights (map worker_deque l.fn.owners.items) r.items × (length r.items ≡ length l.fn.owners.items)) l.rows.items;
  given : (h : g.row.T.Denot → ℕ) → all_given h l.owners.items ≡ all_given h l.fn.owners.items;
  taken : (h : g.row.T.Denot → ℕ) → all_taken h l.owners.items + total (λ r. stolen_by h r.items) l.rows.items
      ≡ all_taken h l.fn.owners.items + total (λ r. stolen_by h r.items) l.fn.rows.items;
}

abbrev pub decreases-loop-row : goal.decreases-loop-row
decreases-loop-row g l = length l.rows.items
