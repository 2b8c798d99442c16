use Rattle.std.proofs.Common.{◌≡◌, ◌+◌, ℕ, length, map}
use Rattle.crossbeam_deque.specs.Handles.{worker_deque}
use Rattle.xs_pool.specs.Owners.{IsOpen}
use Rattle.xs_pool.specs.Rights.{stolen_by, AreRights}
use Rattle.xs_pool.proofs.ListLemmas.{Halfway}
use Rattle.xs_pool.proofs.deques.rights_to.Given as goal

abbrev pub invariant-loop-k : goal.invariant-loop-k
invariant-loop-k g l = record {
  deques : map worker_deque l.owners.items ≡ map worker_deque l.fn.owners.items;
  count : length l.rights.items ≡ l.k;
  rights : AreRights (map worker_deque l.fn.owners.items) l.rights.items;
  unused : (h : g.row.T.Denot → ℕ) → stolen_by h l.rights.items ≡ 0;
  owners : Halfway (IsOpen (l.before + 1)) (IsOpen l.before) l.k l.owners.items;
}
