-- What a finder of keys knows (XSLT 1.0, 12.2): a table for each name of a key, in the order of the keys' numbers.
use Rattle.std.specs.Prelude.{◌≡◌, ℕ, ◌<◌, ◌^◌, ◌&&◌, Bool, false, List, [], All, filter, map, length, Option, Some, None, get_or}
use Rattle.std.specs.Str.{bytes_eq}
use Rattle.xs_trace.specs.declared.fault.Fault.{Fault}
use Rattle.xs_trace.specs.declared.fault.Fault.TheVariants.{Budget, Fraction, Range, NotNodes, NoKey, TooDeep, NoRule, Terminated, NoExtension, Circular}
use Rattle.xs_trace.specs.declared.fault.Fault.TheVariants.{BadResultName, UnboundResultPrefix, BadValue, TooManyEvents, NoDocument}
use Rattle.xs_tree.specs.Record.{Record}
use Rattle.xs_value.specs.NodeSet.{IsNodeList}

-- a node that a key gives for a text
pub record Entry : Type 0 where
  pub text : List ℕ
  pub node : ℕ

-- The key of an expanded name. Where a `use` ends in a fault, the key has that fault.
pub record Table : Type 0 where
  pub uri : List ℕ
  pub local : List ℕ
  pub fault : Option Fault
  pub entries : List Entry

-- whether a table is that of an expanded name
abbrev pub is_named : List ℕ → List ℕ → Table → Bool
is_named uri local t = bytes_eq t.uri uri && bytes_eq t.local local

-- whether an entry is for a text
abbrev pub is_for : List ℕ → Entry → Bool
is_for text e = bytes_eq e.text text

-- the nodes of a text, in the order of the entries
abbrev pub nodes_of : List ℕ → List Entry → List ℕ
nodes_of text entries = map (λ (e : Entry). e.node) (filter (is_for text) entries)

-- the table of the key with a number; past the end one without entries
abbrev pub table_at : List Table → ℕ → Table
table_at ts k = get_or ts k (record { uri = []; local = []; fault = None; entries = [] })

-- The fault of a key, if it has one: an expression ends in it.
abbrev pub IsKeyFault : Option Fault → Type 0
IsKeyFault None = Unit {0}
IsKeyFault (Some Budget) = ⊥
IsKeyFault (Some Fraction) = Unit {0}
IsKeyFault (Some Range) = Unit {0}
IsKeyFault (Some NotNodes) = Unit {0}
IsKeyFault (Some NoKey) = Unit {0}
IsKeyFault (Some TooDeep) = ⊥
IsKeyFault (Some NoRule) = ⊥
IsKeyFault (Some Terminated) = ⊥
IsKeyFault (Some NoExtension) = ⊥
IsKeyFault (Some Circular) = ⊥
IsKeyFault (Some BadResultName) = ⊥
IsKeyFault (Some UnboundResultPrefix) = ⊥
IsKeyFault (Some BadValue) = ⊥
IsKeyFault (Some TooManyEvents) = ⊥
IsKeyFault (Some NoDocument) = ⊥

-- What holds of tables: those of one name are one, the nodes of each text are in document order, each once, and a fault is one
-- of those that an expression ends in.
pub record AreTables (ts : List Table) : Type 0 where
  pub few : length ts < 2 ^ 32
  pub differ : (j k : ℕ) → j < k → k < length ts → is_named (table_at ts j).uri (table_at ts j).local (table_at ts k) ≡ false
  pub ordered : (k : ℕ) (text : List ℕ) → IsNodeList (nodes_of text (table_at ts k).entries)
  pub faults : (k : ℕ) → IsKeyFault (table_at ts k).fault

-- the nodes of all entries are in the tree
abbrev pub TablesIn : List Record → List Table → Type 0
TablesIn rs ts = All (λ (t : Table). All (λ (e : Entry). e.node < length rs) t.entries) ts
