use Rattle.std.proofs.Common.{◌≡◌, ℕ, map}
use Rattle.std.specs.List.{range_with_len}
use Rattle.xs_tree.specs.Record.{Record}
use Rattle.xs_pattern_spec.specs.Counted.{alike_number}
use Rattle.xs_number_tables.specs.steps.Alike.{seen_in}
use Rattle.xs_numbering.specs.Passes.{children_seen}
use Rattle.xs_number_tables.proofs.AlikeLemmas.{alike}
use Rattle.xs_number_tables.proofs.alike.alike_numbers.Given as goal

-- the numbers of the nodes that were passed, and how many of each likeness were seen among the children of each node
abbrev pub invariant-loop-place : goal.invariant-loop-place
invariant-loop-place l = record {
  numbers : l.numbers.items ≡ map (alike_number l.tree) (range_with_len 0 l.place);
  seen : (p : ℕ) (r : Record) → seen_in l.seen p r ≡ children_seen (alike l.tree r) l.tree p l.place;
}
