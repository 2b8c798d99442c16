-- Lists of instructions that gain one.
use Rattle.std.specs.Prelude.{◌≡◌, List, [], ◌∷◌, ◌++◌, Result, Ok, Err}
use Rattle.xs_compile.specs.Bodies.{Source}
use Rattle.xs_compile.specs.Declarations.{IsInstr}
use Rattle.xs_sheet.specs.declared.body.Instr.{Instr}
use Rattle.xs_sheet.specs.declared.body.InstrKind.{InstrKind}
use Rattle.xs_structure.specs.Modules.{Place}
use Rattle.xs_trace.specs.declared.item.Site.{Site}

-- one at a line that does this, where it was compiled
abbrev pub Gains : {E : Type 0} → Result InstrKind E → Site → (before after : List Instr) → Type 0
Gains (Ok kind) site before after = after ≡ before ++ (record { site = site; kind = kind }) ∷ []
Gains (Err e) site before after = ⊥

-- the one that a place represents
pub record GainsInstr (s : Source) (p : Place) (before after : List Instr) : Type 0 where
  pub instr : Instr
  pub grown : after ≡ before ++ instr ∷ []
  pub stands : IsInstr s p instr
