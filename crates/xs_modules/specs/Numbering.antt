-- The modules of a stylesheet as a list, in the order of their numbers: depth first in the order of lines, the first module being 0.
use Rattle.std.specs.Prelude.{ℕ, ◌+◌, List, [], ◌∷◌, ◌++◌, Option, if◌then◌else◌, Bool, map}
use Rattle.xs_tree.specs.Record.{Record}
use Rattle.xs_modules.specs.Mentions.{Mention}
use Rattle.xs_modules.specs.Mentioned.{Mentioned, no_module, one, count}
use Rattle.xs_modules.specs.Precedence.{Rank, rank_of, sheets}

-- A module, before its precedence is known: its nodes, the line of each, its name, the number of the module and the element that
-- mention it, and the number of the stylesheet that it is a part of.
pub record PartData : Type 0 where
  pub records : List Record
  pub lines : List ℕ
  pub name : List ℕ
  pub mention : Option (ℕ × ℕ)
  pub sheet : ℕ

-- an imported module is a stylesheet of its own, an included one is part of the including one's (XSLT 1.0, 2.6.1 and 2.6.2)
abbrev pub sheet_for : Bool → ℕ → ℕ → ℕ
sheet_for is_import number sheet = if is_import then number else sheet

-- the module that a mention names, as a part of this stylesheet
abbrev pub part_of : Mention → List Record → List ℕ → ℕ → PartData
part_of m rs lines sheet = record { records = rs; lines = lines; name = m.name; mention = m.element; sheet = sheet }

-- the modules that the mentions of a part of a stylesheet name, the first of which has this number
unfoldable pub parts : ℕ → ℕ → Mentioned → List PartData
parts sheet number no_module = []
parts sheet number (one m rs lines inside next) =
    part_of m rs lines (sheet_for m.is_import number sheet)
    ∷ parts (sheet_for m.is_import number sheet) (number + 1) inside ++ parts sheet (number + (1 + count inside)) next

-- a module, with the rank of the stylesheet that it is a part of (XSLT 1.0, 2.6.2)
pub record ModuleData : Type 0 where
  pub records : List Record
  pub lines : List ℕ
  pub name : List ℕ
  pub mention : Option (ℕ × ℕ)
  pub rank : Rank

abbrev pub ranked : (ℕ → Rank) → PartData → ModuleData
ranked rank part = record { records = part.records; lines = part.lines; name = part.name; mention = part.mention; rank = rank part.sheet }

-- the modules of a whole stylesheet
abbrev pub numbered : Mentioned → List ModuleData
numbered modules = map (ranked (rank_of (sheets modules))) (parts 0 0 modules)
