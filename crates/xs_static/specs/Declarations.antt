-- Declarations of attribute sets as contracts see them.
use Rattle.std.specs.Prelude.{List, map}
use Rattle.xs_static.specs.declared.circles.Declaration.{Declaration}
use Rattle.xs_static.specs.Circles.{Declared}
use Rattle.xs_elements.specs.Nodes.{name_data}

abbrev pub declared : Declaration → Declared
declared d = record { place = d.place; name = name_data d.name; sets = map name_data d.sets.items }

abbrev pub declared_all : List Declaration → List Declared
declared_all ds = map declared ds
