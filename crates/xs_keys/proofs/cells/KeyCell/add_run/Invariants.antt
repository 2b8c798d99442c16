use Rattle.std.proofs.Common.{◌≡◌, ◌++◌, ℕ, List, length}
use Rattle.std.specs.Vec.Iter.{into_iter_items, into_iter_len}
use Rattle.xs_keys.specs.steps.Cells.{nodes_kept}
use Rattle.xs_keys.specs.steps.Pairs.{nodes_by, pairs_in}
use Rattle.xs_keys.proofs.cells.KeyCell.add_run.Given as goal

-- the pairs that were passed are added
abbrev pub invariant-loop-pair : goal.invariant-loop-pair
invariant-loop-pair l = record {
  whole : l.yielded ++ into_iter_items l.pair-iterator ≡ into_iter_items l.initial.pair-iterator;
  left : into_iter_len l.pair-iterator ≡ length (into_iter_items l.pair-iterator);
  name : l.self.name ≡ l.initial.self.name;
  fault : l.self.fault ≡ l.initial.self.fault;
  nodes : (text : List ℕ) → nodes_kept l.self text ≡ nodes_by text (nodes_kept l.initial.self text) (pairs_in l.yielded);
}
