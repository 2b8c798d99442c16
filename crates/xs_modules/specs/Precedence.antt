-- Import precedence (XSLT 1.0, 2.6.2). A stylesheet is a module that is imported, or the first one, with the modules that it
-- includes, directly or not.
use Rattle.std.specs.Prelude.{ℕ, ◌+◌, ◌-◌, ◌==◌, List, [], ◌∷◌, ◌++◌, if◌then◌else◌, length, Bool}
use Rattle.xs_modules.specs.Mentioned.{Mentioned, no_module, one, count}

-- A stylesheet, by the number of its module, and how many others it imports, directly or not.
pub record Sheet : Type 0 where
  pub number : ℕ
  pub below : ℕ

-- The stylesheets that a module imports, directly or not: by its own imports, and by those of the modules that it includes. In
-- each list a stylesheet comes after all that it imports, which is post-order of the import tree.
pub record Imports : Type 0 where
  pub own : List Sheet
  pub included : List Sheet

-- An included module's imports come after the including module's own (2.6.1).
abbrev pub in_order : Imports → List Sheet
in_order imports = imports.own ++ imports.included

abbrev pub no_imports : Imports
no_imports = record { own = []; included = [] }

-- what a stylesheet imports, and then itself
abbrev pub with_sheet : ℕ → List Sheet → List Sheet
with_sheet number sheets = sheets ++ record { number = number; below = length sheets } ∷ []

-- what one mention adds: an import the stylesheet itself, an include what it imports
abbrev pub mentioned_imports : Bool → ℕ → Imports → Imports
mentioned_imports is_import number within =
    if is_import then record { own = with_sheet number (in_order within); included = [] }
    else record { own = []; included = in_order within }

-- those of some mentions and then those of others
abbrev pub joined : Imports → Imports → Imports
joined a b = record { own = a.own ++ b.own; included = a.included ++ b.included }

-- the imports of a module whose mentions name these modules, the first of which has this number
unfoldable pub imports : ℕ → Mentioned → Imports
imports number no_module = no_imports
imports number (one m rs lines inside next) =
    joined (mentioned_imports m.is_import number (imports (number + 1) inside)) (imports (number + (1 + count inside)) next)

-- all stylesheets, the first module's as the last
abbrev pub sheets : Mentioned → List Sheet
sheets modules = in_order (imports 0 modules)

-- The precedence of a stylesheet is its place in post-order, and those that it imports stand just before it, from
-- `place - below` on.
pub record Rank : Type 0 where
  pub precedence : ℕ
  pub imports_from : ℕ

abbrev pub rank_at : ℕ → Sheet → Rank
rank_at place sheet = record { precedence = place; imports_from = place - sheet.below }

-- the rank of the stylesheet with this number among these, the first of which stands at this place
unfoldable pub rank_among : ℕ → ℕ → List Sheet → Rank
rank_among number place [] = record { precedence = 0; imports_from = 0 }
rank_among number place (sheet ∷ more) = if sheet.number == number then rank_at place sheet else rank_among number (place + 1) more

abbrev pub rank_of : List Sheet → ℕ → Rank
rank_of all number = rank_among number 0 all
