-- Numbers of names.
use Rattle.std.specs.Prelude.{ℕ, ◌&&◌, nat_le, nat_lt, Bool}
use Rattle.std.specs.List.{list_all}
use Rattle.std.specs.HashMap.{get_by}
use Rattle.std.specs.Option.{unwrap_or}
use Rattle.std.specs.Str.{bytes_eq}
use Rattle.xs_static.specs.declared.circles.Declaration.{Declaration}
use Rattle.xs_static.specs.declared.name_numbers.Numbers.{Numbers}
use Rattle.xs_elements.specs.Nodes.{Name, name_data}

abbrev pub number_in : Numbers → Name → ℕ
number_in numbers name = unwrap_or (get_by (λ k. bytes_eq name.0 k.0.now && bytes_eq name.1 k.1.now) numbers.numbers) 0

-- the rank of a declaration's name is below none of those that it uses
abbrev pub rises_nowhere : Numbers → Declaration → Bool
rises_nowhere ranks d = list_all (λ used. nat_le (number_in ranks (name_data used)) (number_in ranks (name_data d.name))) d.sets.items

-- it is above those of all that it uses
abbrev pub falls : Numbers → Declaration → Bool
falls ranks d = list_all (λ used. nat_lt (number_in ranks (name_data used)) (number_in ranks (name_data d.name))) d.sets.items
