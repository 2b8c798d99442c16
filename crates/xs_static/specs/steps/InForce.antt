-- Which names are visible where the walk is.
use Rattle.std.specs.Prelude.{ℕ, ◌||◌, Bool, false, List}
use Rattle.std.specs.Borrow.{Bor}
use Rattle.std.specs.List.{list_any}
use Rattle.std.specs.Option.{option_map_or}
use Rattle.xs_elements.specs.Nodes.{Name, is_same_name, name_data}
use Rattle.xs_static.specs.declared.variables.Visible.{Visible}
use Rattle.xs_structure.specs.InForce.{in_force_at}

-- one of these names is this one
abbrev pub is_among : List (Bor (List ℕ) × Bor (List ℕ)) → Name → Bool
is_among names name = list_any (λ n. is_same_name name (name_data n)) names

-- the names that are visible to a value
abbrev pub visible_in : Visible → List ℕ → List ℕ → Bool
visible_in v uri local =
    is_among v.globals.now.keys (uri, local) || option_map_or (λ locals. in_force_at locals.now uri local v.place) v.locals false
