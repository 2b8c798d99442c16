-- The modes of a stylesheet, and those that a table has.
use Rattle.std.specs.Prelude.{◌≡◌, ℕ, ◌<◌, Bool, true, List, [], ◌∷◌, ◌++◌, length, map, Option, Some, None, codes, if◌then◌else◌}
use Rattle.std.specs.List.{flat_map, list_any}
use Rattle.std.specs.Option.{option_and_then, option_map_or}
use Rattle.xs_compile.specs.declared.modes.Modes.{Modes}
use Rattle.xs_elements.specs.Nodes.{Name, expanded, is_same_name, name_data, scope_at, value_of}
use Rattle.xs_modules.specs.Numbering.{ModuleData}
use Rattle.xs_structure.specs.Modules.{records_at}
use Rattle.xs_tree.specs.Record.{Record, places}

-- the mode that a node names
abbrev pub tree_mode : List Record → ℕ → Option Name
tree_mode rs n = option_and_then (expanded (scope_at rs n)) (value_of rs n [] (codes "mode"))

abbrev pub tree_modes : List Record → List (Option Name)
tree_modes rs = map (tree_mode rs) (places rs)

-- these modes and another one, unless it is among them
abbrev pub with_mode : List Name → Option Name → List Name
with_mode names None = names
with_mode names (Some name) = if list_any (is_same_name name) names then names else names ++ name ∷ []

abbrev pub with_modes : List Name → List (Option Name) → List Name
with_modes names [] = names
with_modes names (mode ∷ modes) = with_modes (with_mode names mode) modes

-- All modes of a stylesheet, each once, by their first use in the order of its modules and of their nodes (XSLT 1.0, 5.7).
unfoldable pub modes_of : List ModuleData → List Name
modes_of ms = with_modes [] (flat_map (λ d. tree_modes d.records) ms)

-- ---- a table
abbrev pub modes_in : Modes → List Name
modes_in m = map name_data m.names.keys

-- one of them is this mode, if there is one
abbrev pub has_mode : Modes → Option Name → Bool
has_mode m mode = option_map_or (λ name. list_any (is_same_name name) (modes_in m)) mode true

-- they have the modes of the first so many nodes of a module, and of all nodes
abbrev pub HasModes : List Record → ℕ → Modes → Type 0
HasModes rs count m = (n : ℕ) → n < count → has_mode m (tree_mode rs n) ≡ true

abbrev pub HaveModes : List ModuleData → Modes → Type 0
HaveModes ms m = (k : ℕ) → k < length ms → HasModes (records_at ms k) (length (records_at ms k)) m
