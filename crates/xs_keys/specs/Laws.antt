-- The laws of keys.
use Rattle.std.specs.Prelude.{◌≡◌, ℕ, ◌<◌, List, length, get_or}
use Rattle.xs_sheet.specs.declared.declarations.KeyDecl.{KeyDecl}
use Rattle.xs_trace.specs.Label.{Label}
use Rattle.xs_tree.specs.Record.{Record}
use Rattle.xs_value.specs.Tables.{nodes_of, table_at, TablesIn}
use Rattle.xs_keys.specs.Keys.{key_fault, key_nodes}
use Rattle.xs_keys.specs.KeyTables.{declarations_of, names_of, table_of, tables_of}

-- The table of a name has its key's nodes for each text, and its key's fault; there is one for each name, in the order of the names.
pub record KeyLaws (rs : List Record) (ds : List KeyDecl) : Type 0 where
  pub nodes : (name : Label) (text : List ℕ) → nodes_of text (table_of rs ds name).entries ≡ key_nodes rs (declarations_of name ds) text
  pub fault : (name : Label) → (table_of rs ds name).fault ≡ key_fault rs (declarations_of name ds)
  pub tables : (k : ℕ) (name : Label) → k < length (names_of ds) → get_or (names_of ds) k name ≡ name → table_at (tables_of rs ds) k ≡ table_of rs ds name
  pub inside : TablesIn rs (tables_of rs ds)
