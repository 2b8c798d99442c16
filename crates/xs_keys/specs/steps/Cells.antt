-- What is kept of each key.
use Rattle.std.specs.Prelude.{◌≡◌, ℕ, ◌&&◌, Bool, List, [], map, All, None, Some, Result, Ok, Err}
use Rattle.std.specs.HashMap.{get_by_text}
use Rattle.std.specs.Option.{option_map_or}
use Rattle.std.specs.Str.{bytes_eq}
use Rattle.xs_sheet.specs.declared.declarations.KeyDecl.{KeyDecl}
use Rattle.xs_trace.specs.Label.{Label}
use Rattle.xs_tree.specs.Record.{Record}
use Rattle.xs_value.specs.Keys.{found_nodes}
use Rattle.xs_value.specs.declared.keys.Found.{Found}
use Rattle.xs_value.specs.declared.keys.KeyEnd.{KeyEnd}
use Rattle.xs_value.specs.declared.keys.KeyEnd.TheVariants.{Fault, NoMemory}
use Rattle.xs_keys.specs.declared.cells.KeyCell.{KeyCell}
use Rattle.xs_keys.specs.Keys.{key_fault, key_nodes}
use Rattle.xs_keys.specs.KeyTables.{declarations_of, names_of}

-- the nodes that are kept for a text
abbrev pub nodes_kept : KeyCell → (text : List ℕ) → List ℕ
nodes_kept cell text = option_map_or (λ g. g.items) (get_by_text cell.nodes text) []

-- a cell has the nodes and the fault of some declarations
pub record IsCell (rs : List Record) (ds : List KeyDecl) (cell : KeyCell) : Type 0 where
  pub nodes : (text : List ℕ) → nodes_kept cell text ≡ key_nodes rs ds text
  pub fault : cell.fault ≡ key_fault rs ds

abbrev pub IsCellOf : List Record → List KeyDecl → KeyCell → Type 0
IsCellOf rs ds cell = IsCell rs (declarations_of cell.name ds) cell

abbrev pub names_in : List KeyCell → List Label
names_in cells = map (λ (c : KeyCell). c.name) cells

-- whether a name has a URI and a local part
abbrev pub is_name : (uri local : List ℕ) → Label → Bool
is_name uri local name = bytes_eq name.uri uri && bytes_eq name.local local

-- the nodes of a text, unless there is a fault
abbrev pub IsFound : KeyCell → (text : List ℕ) → Result Found KeyEnd → Type 0
IsFound cell text (Ok found) = (cell.fault ≡ None) × (found_nodes found ≡ nodes_kept cell text)
IsFound cell text (Err (Fault f)) = cell.fault ≡ Some f
IsFound cell text (Err NoMemory) = ⊥

-- a cell for each name that is declared
pub record AreCells (rs : List Record) (ds : List KeyDecl) (cs : List KeyCell) : Type 0 where
  pub names : names_in cs ≡ names_of ds
  pub cells : All (IsCellOf rs ds) cs
