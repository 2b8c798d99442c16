-- Tables of the names that names use.
use Rattle.std.specs.Prelude.{ℕ, ◌&&◌, List, [], map, Option, Vec, option_map, vec_len}
use Rattle.std.specs.List.{sum_by}
use Rattle.std.specs.Borrow.{Bor}
use Rattle.std.specs.HashMap.{get_by, values}
use Rattle.std.specs.Option.{unwrap_or}
use Rattle.std.specs.Str.{bytes_eq}
use Rattle.xs_static.specs.declared.uses.Uses.{Uses}
use Rattle.xs_elements.specs.Nodes.{Name, name_data}

-- the names of a list, if there is one, and how many they are
abbrev pub names_in : {A : Type 0} → Option (Vec (Bor (List ℕ) × Bor (List ℕ)) A) → Option (List Name)
names_in found = option_map (λ names. map name_data names.items) found

abbrev pub taken_len : {A : Type 0} → Option (Vec (Bor (List ℕ) × Bor (List ℕ)) A) → ℕ
taken_len found = unwrap_or (option_map (λ names. vec_len names) found) 0

-- what a table has for a name
abbrev pub left_in : Uses → Name → Option (List Name)
left_in uses name = names_in (get_by (λ k. bytes_eq name.0 k.0.now && bytes_eq name.1 k.1.now) uses.names)

abbrev pub uses_in : Uses → Name → List Name
uses_in uses name = unwrap_or (left_in uses name) []

-- how many names it holds
abbrev pub uses_size : Uses → ℕ
uses_size uses = sum_by (λ names. vec_len names) (values uses.names)
