-- The declarations of attribute sets as the code collects them.
use Rattle.std.specs.Prelude.{ℕ, List, [], ◌∷◌, Option, Some, None, if◌then◌else◌}
use Rattle.std.specs.List.{flat_map}
use Rattle.xs_static.specs.declared.circles.Place.{Place as CirclePlace}
use Rattle.xs_static.specs.Circles.{Declared}
use Rattle.xs_elements.specs.Nodes.{Name, own_name}
use Rattle.xs_elements.specs.Reading.{is_seen}
use Rattle.xs_elements.specs.Tags.{is_attribute_set, tag_of}
use Rattle.xs_modules.specs.Numbering.{ModuleData}
use Rattle.xs_static.specs.declared.fault.StaticFault.{StaticFault}
use Rattle.xs_structure.specs.Modules.{Place, line_at, records_at}
use Rattle.xs_static.specs.Sets.{named_sets, own_sets}
use Rattle.xs_tree.specs.Record.{Record}

-- the sets that a node names, where it is looked at
abbrev pub seen_sets : List Record → ℕ → List Name
seen_sets rs k = if is_seen rs k then named_sets rs k else []

-- the declaration that an element is, which stands in this line
abbrev pub declared_as : List Record → (line : ℕ) → Place → Option Name → List Declared
declared_as rs line p None = []
declared_as rs line p (Some name) = record { place = record { «module» = p.0; line = line }; name = name; sets = own_sets rs p.1 } ∷ []

abbrev pub declaration_from : List Record → (line : ℕ) → Place → List Declared
declaration_from rs line p = if is_attribute_set (tag_of rs p.1) then declared_as rs line p (own_name rs p.1) else []

abbrev pub declaration_at : List ModuleData → Place → List Declared
declaration_at ms p = declaration_from (records_at ms p.0) (line_at ms p.0 p.1) p

abbrev pub declarations_of : List ModuleData → List Place → List Declared
declarations_of ms ps = flat_map (declaration_at ms) ps

abbrev pub circle_at : Option CirclePlace → Option StaticFault
circle_at None = None
circle_at (Some place) = Some (record { «module» = place.«module»; line = place.line; number = 44 })
