use Rattle.std.proofs.Common.{◌≡◌, drop}
use Rattle.std.specs.List.{list_any}
use Rattle.xs_keys.specs.KeyTables.{is_same}
use Rattle.xs_keys.specs.steps.Cells.{names_in}
use Rattle.xs_keys.proofs.keys.has_name.Given as goal

abbrev pub invariant-loop-cell : goal.invariant-loop-cell
invariant-loop-cell l = list_any (is_same l.name) (names_in (drop l.cell-index l.cells)) ≡ list_any (is_same l.name) (names_in l.cells)
