use Rattle.std.proofs.Common.{◌≡◌, ◌++◌, length}
use Rattle.std.specs.Vec.Iter.{into_iter_items, into_iter_len}
use Rattle.xs_keys.specs.steps.Cells.{nodes_kept}
use Rattle.xs_keys.specs.steps.Pairs.{bound, decls_in}
use Rattle.xs_keys.proofs.RunLemmas.{IsAdded}
use Rattle.xs_keys.proofs.cells.KeyCell.fill.Given as goal

-- what was gathered in the runs that were added
abbrev pub invariant-loop-outcome : goal.invariant-loop-outcome
invariant-loop-outcome g l = record {
  whole : l.yielded ++ into_iter_items l.outcome-iterator ≡ into_iter_items l.initial.outcome-iterator;
  left : into_iter_len l.outcome-iterator ≡ length (into_iter_items l.outcome-iterator);
  name : l.self.name ≡ l.fn.self.name;
  added : IsAdded l.tree (decls_in l.members) (bound l.size (length l.tree) (length l.yielded)) (nodes_kept l.self) l.self.fault;
}
