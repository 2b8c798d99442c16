use Rattle.std.proofs.Common.{◌≡◌, map}
use Rattle.std.specs.List.{range_with_len}
use Rattle.xs_pattern_spec.specs.Counted.{alike_any_number}
use Rattle.xs_numbering.specs.Passes.{is_flagged}
use Rattle.xs_number_tables.proofs.AlikeLemmas.{IsSeen}
use Rattle.xs_number_tables.proofs.alike.alike_any_numbers.Given as goal

-- the numbers of the nodes that were passed, and how many of each likeness were seen in the group
abbrev pub invariant-loop-place : goal.invariant-loop-place
invariant-loop-place l = record {
  numbers : l.numbers.items ≡ map (alike_any_number (is_flagged l.from) l.tree) (range_with_len 0 l.place);
  seen : IsSeen (is_flagged l.from) l.tree l.seen l.group l.place;
}
