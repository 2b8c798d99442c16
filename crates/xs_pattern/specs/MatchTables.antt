-- Tables of the nodes that match a pattern (XSLT 1.0, 5.2).
use Rattle.std.specs.Prelude.{◌≡◌, ℕ, ◌<◌, Bool, false, List, get_or, length}
use Rattle.xs_pattern_spec.specs.Matching.{is_match}
use Rattle.xs_sheet.specs.declared.scoped.ScopedPattern.{ScopedPattern}
use Rattle.xs_tree.specs.Record.{Record}
use Rattle.xs_value.specs.Tables.{Table}

-- a table says of each node whether it matches
abbrev pub IsMatchTable : List Table → List Record → ScopedPattern → List Bool → Type 0
IsMatchTable keys rs p table = (n : ℕ) → n < length rs → get_or table n false ≡ is_match keys rs p n
