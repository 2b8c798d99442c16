-- Where a call is in a stylesheet.
use Rattle.std.specs.Prelude.{◌≡◌, ◌<◌, List, length}
use Rattle.std.specs.List.{All}
use Rattle.xs_modules.specs.Numbering.{ModuleData}
use Rattle.xs_structure.specs.Modules.{Place, records_at}

-- a node of the stylesheet
pub record IsIn (ms : List ModuleData) (p : Place) : Type 0 where
  pub «module» : p.0 < length ms
  pub node : p.1 < length (records_at ms p.0)

-- each node has its line
abbrev pub HaveLines : List ModuleData → Type 0
HaveLines ms = All (λ (d : ModuleData). length d.lines ≡ length d.records) ms
