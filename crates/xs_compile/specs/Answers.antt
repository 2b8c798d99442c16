-- What compiling a stylesheet answers.
use Rattle.std.specs.Prelude.{List, Some, None, Result, Ok, Err}
use Rattle.xs_modules.specs.Numbering.{ModuleData}
use Rattle.xs_sheet.specs.declared.sheet.Sheet.{Sheet}
use Rattle.xs_sheet.specs.Sound.{IsSound}
use Rattle.xs_static.specs.Faults.{IsFirstFault}
use Rattle.xs_compile.specs.declared.compiled.CompileEnd.{CompileEnd}
use Rattle.xs_compile.specs.declared.compiled.CompileEnd.TheVariants.{Refused, NoMemory}
use Rattle.xs_compile.specs.Represents.{Represents}

-- A stylesheet without static faults is compiled to what represents it, whose parts refer to what is there.
pub record IsCompiled (ms : List ModuleData) (sheet : Sheet) : Type 0 where
  pub accepted : IsFirstFault ms None
  pub stands : Represents ms sheet
  pub sound : IsSound sheet

-- any other is refused for the least of its faults; out of memory may be the answer in any case
abbrev pub Answers : List ModuleData → Result Sheet CompileEnd → Type 0
Answers ms (Ok sheet) = IsCompiled ms sheet
Answers ms (Err (Refused fault)) = IsFirstFault ms (Some fault)
Answers ms (Err NoMemory) = Unit {0}
