-- The files of a run: those that it makes itself, or those of its library.
use Rattle.std.specs.Prelude.{ℕ, List, Option, Some, None, codes, if◌then◌else◌}
use Rattle.std.specs.Str.{bytes_eq}
use Rattle.xs_load.specs.Case.{sheet as load_sheet, source as load_source}
use Rattle.xs_outside.specs.Edge.{Files}

-- the names of the stylesheet and the source that a run makes
abbrev pub made_sheet : List ℕ
made_sheet = codes "load.sheet"

abbrev pub made_source : List ℕ
made_source = codes "load.source"

-- files that are made: their bytes, and the names that were asked for
pub record Made : Type 0 where
  pub sheet : List ℕ
  pub source : List ℕ
  pub asked : List (List ℕ)

-- two files of these bytes; there are no others
unfoldable pub two_files : (sheet source : List ℕ) → Files
two_files sheet source name = if bytes_eq name made_sheet then Some sheet else (if bytes_eq name made_source then Some source else None)

-- the two files of a load, of which the source has so many elements
abbrev pub made_files : ℕ → Files
made_files count = two_files load_sheet (load_source count)

-- The files of a run, where they are known: those that it makes, whatever the library has; else those that the library records.
abbrev pub files_of : (made : Option ℕ) → Option Files → Option Files
files_of None files = files
files_of (Some count) files = Some (made_files count)
