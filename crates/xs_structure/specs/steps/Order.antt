-- Declarations, element by element.
use Rattle.std.specs.Prelude.{ℕ, List, [], ◌∷◌}
use Rattle.std.specs.Option.{option_map_or}
use Rattle.xs_modules.specs.Numbering.{ModuleData}
use Rattle.xs_structure.specs.Modules.{Place, mentioned}
use Rattle.xs_structure.specs.Order.{declarations_from}

-- a declaration, or what the module declares that it mentions
abbrev pub declarations_of_element : ℕ → List ModuleData → Place → List Place
declarations_of_element most ms p = option_map_or (declarations_from most ms) (mentioned ms p) (p ∷ [])
