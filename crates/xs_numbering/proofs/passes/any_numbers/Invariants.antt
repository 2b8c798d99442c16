use Rattle.std.proofs.Common.{◌≡◌, ◌≤◌, ◌-◌, map}
use Rattle.std.specs.List.{range_with_len}
use Rattle.xs_tree.specs.Axis.{root_of}
use Rattle.xs_numbering.specs.Counting.{any_number}
use Rattle.xs_numbering.specs.Passes.{is_flagged, running}
use Rattle.xs_numbering.proofs.passes.any_numbers.Given as goal

-- the numbers of the nodes that were passed, and how many of them are counted for the next one
abbrev pub invariant-loop-place : goal.invariant-loop-place
invariant-loop-place l = record {
  numbers : l.numbers.items ≡ map (any_number (is_flagged l.counts) (is_flagged l.from) l.tree) (range_with_len 0 l.place);
  carried : l.carried ≡ running (is_flagged l.counts) (is_flagged l.from) l.tree (root_of l.tree (l.place - 1)) l.place;
  few : l.carried ≤ l.place;
}
