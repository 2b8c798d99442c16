use Rattle.std.proofs.Common.{◌≡◌, ℕ, length, map}
use Rattle.crossbeam_deque.specs.Handles.{stealer_deque}
use Rattle.xs_pool.specs.Rights.{stolen_by, AreRights}
use Rattle.xs_pool.proofs.moves.sweep.Given as goal

abbrev pub invariant-loop-k : goal.invariant-loop-k
invariant-loop-k g l = record {
  rights : AreRights (map stealer_deque l.thieves) l.rights.items;
  count : length l.rights.items ≡ length l.fn.rights.items;
  taken : (h : g.row.T.Denot → ℕ) → stolen_by h l.rights.items ≡ stolen_by h l.fn.rights.items;
}
