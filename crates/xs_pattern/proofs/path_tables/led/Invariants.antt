use Rattle.std.proofs.Common.{◌≡◌, ℕ, ◌<◌, false, get_or, length}
use Rattle.std.specs.List.{list_any, range_with_len}
use Rattle.xs_xpath.specs.Exprs.{tree_from}
use Rattle.xs_pattern.specs.steps.PathTables.{is_selected}
use Rattle.xs_pattern.proofs.path_tables.led.Given as goal

-- the table is that of the nodes that were passed
abbrev pub invariant-loop-place : goal.invariant-loop-place
invariant-loop-place l = record {
  long : length l.table.items ≡ length l.tree;
  whole : (n : ℕ) → n < length l.tree → get_or l.table.items n false
      ≡ list_any (is_selected l.tree l.scope.pairs.items (tree_from l.step) l.ends n) (range_with_len 0 l.place);
}
