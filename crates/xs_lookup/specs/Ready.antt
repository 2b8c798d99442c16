-- What a finder finds by.
use Rattle.std.specs.Prelude.{◌≡◌, List}
use Rattle.xs_number_tables.specs.Tables.{AreCounters}
use Rattle.xs_keys.specs.KeyTables.{tables_of}
use Rattle.xs_rules.specs.Indexed.{IsIndex, IsPrepared}
use Rattle.xs_value.specs.Tables.{Table, TablesIn}
use Rattle.xs_lookup.specs.declared.finder.SheetFinder.{SheetFinder}

-- the tables of its keys
abbrev pub tables_in : SheetFinder → List Table
tables_in f = tables_of f.keys.now.tree.value f.keys.now.sheet.value.keys

-- its index is that of the stylesheet's rules, prepared for the tree, and its counters are those of the tree and the keys, whose nodes are
-- in the tree
pub record IsReady (f : SheetFinder) : Type 0 where
  pub index : IsIndex f.rules
  pub templates : f.rules.templates.now ≡ f.sheet.now.templates
  pub prepared : IsPrepared f.rules f.tree.now
  pub counted : AreCounters (tables_in f) f.tree.now f.counters
  pub inside : TablesIn f.tree.now (tables_in f)
