-- What follows of the definition of a compiled stylesheet.
use Rattle.std.specs.Prelude.{◌≡◌, List}
use Rattle.xs_modules.specs.Numbering.{ModuleData}
use Rattle.xs_sheet.specs.declared.sheet.Sheet.{Sheet}
use Rattle.xs_compile.specs.Represents.{Represents}

-- modules have one compiled stylesheet
abbrev pub OneSheet : Type 0
OneSheet = (ms : List ModuleData) (a b : Sheet) → Represents ms a → Represents ms b → a ≡ b
