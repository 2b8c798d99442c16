use Rattle.std.proofs.Common.{◌≡◌, ◌<◌, ℕ, get_or, length, map}
use Rattle.std.specs.List.{range_with_len}
use Rattle.xs_numbering.specs.Counting.{sibling_number}
use Rattle.xs_numbering.specs.Passes.{children_seen, is_flagged}
use Rattle.xs_numbering.proofs.passes.sibling_numbers.Given as goal

-- the numbers of the nodes that were passed, and how many children of each node were counted
abbrev pub invariant-loop-place : goal.invariant-loop-place
invariant-loop-place l = record {
  numbers : l.numbers.items ≡ map (sibling_number (is_flagged l.counts) l.tree) (range_with_len 0 l.place);
  seen : (p : ℕ) → p < length l.tree → get_or l.seen.items p 0 ≡ children_seen (is_flagged l.counts) l.tree p l.place;
  len : length l.seen.items ≡ length l.tree;
}
