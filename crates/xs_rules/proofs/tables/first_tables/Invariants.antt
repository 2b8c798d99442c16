use Rattle.std.proofs.Common.{◌≡◌, length}
use Rattle.xs_rules.specs.steps.Index.{AreTables}
use Rattle.xs_rules.proofs.tables.first_tables.Given as goal

abbrev pub invariant-loop-entry : goal.invariant-loop-entry
invariant-loop-entry l = record {
  tables : AreTables l.templates l.entries l.tree l.tables.items;
  long : length l.tables.items ≡ l.entry-index;
}
