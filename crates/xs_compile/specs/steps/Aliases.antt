-- Aliases, one by one.
use Rattle.std.specs.Prelude.{ℕ, ◌&&◌, filter, Bool, List}
use Rattle.xs_modules.specs.Numbering.{ModuleData}
use Rattle.xs_structure.specs.Modules.{Place}
use Rattle.xs_compile.specs.Aliases.{alias_at, is_alias, is_alias_of}
use Rattle.xs_compile.specs.Counted.{is_counted}
use Rattle.xs_structure.specs.Order.{declarations}
use Rattle.xs_structure.specs.Parts.{tag_at}

-- an element declares an alias for this namespace
abbrev pub is_alias_for : List ModuleData → List ℕ → Place → Bool
is_alias_for ms uri p = is_alias (tag_at ms p) && is_alias_of ms uri p

-- and it is one that counts
abbrev pub has_alias : List ModuleData → Place → Bool
has_alias ms p = is_alias (tag_at ms p) && is_counted ms (filter (is_alias_for ms (alias_at ms p).from_uri) (declarations ms)) p
