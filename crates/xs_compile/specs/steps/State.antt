-- What a compilation knows.
use Rattle.std.specs.Prelude.{◌≡◌, ℕ, ◌<◌, false, true, None, Some, List, map}
use Rattle.std.specs.List.{AllZip}
use Rattle.xs_compile.specs.declared.compiler.Compiler.{Compiler}
use Rattle.xs_compile.specs.declared.parts.Part.{Part}
use Rattle.xs_compile.specs.Bodies.{Source}
use Rattle.xs_compile.specs.Counted.{global_number, template_number}
use Rattle.xs_structure.specs.Parts.{tag_at}
use Rattle.xs_compile.specs.Tables.{number_in}
use Rattle.xs_compile.specs.Modes.{HaveModes, modes_in, modes_of}
use Rattle.xs_compile.specs.steps.Tags.{is_body_tag, part_tag}
use Rattle.xs_structure.specs.Standing.{standing_of}
use Rattle.xs_compile.specs.steps.Tables.{HasLocals}
use Rattle.xs_structure.specs.Scopes.{scopes_in, scopes_of}
use Rattle.xs_structure.specs.Places.{IsIn}
use Rattle.xs_elements.specs.Reading.{is_seen}
use Rattle.xs_elements.specs.Tags.{is_top_level}
use Rattle.xs_modules.specs.Numbering.{ModuleData}
use Rattle.xs_modules.specs.Results.{modules_data}
use Rattle.xs_modules.specs.Sound.{IsSound}
use Rattle.xs_static.specs.Faults.{IsFirstFault}
use Rattle.xs_structure.specs.Modules.{Place, records_at}
use Rattle.xs_tree.specs.Record.{at, places}

abbrev pub modules_of : Compiler → List ModuleData
modules_of c = modules_data c.modules.now

abbrev pub source_of : Compiler → Source
source_of c = record { modules = modules_of c; modes = modes_of (modules_of c) }

-- the stylesheet has no static fault, and the tables are those of its modules
pub record IsState (c : Compiler) : Type 0 where
  pub sound : IsSound (modules_of c)
  pub accepted : IsFirstFault (modules_of c) None
  pub globals : (uri local : List ℕ) → number_in c.globals uri local ≡ global_number (modules_of c) (uri, local)
  pub templates : (uri local : List ℕ) → number_in c.templates uri local ≡ template_number (modules_of c) (uri, local)
  pub modes : HaveModes (modules_of c) c.modes
  pub order : modes_in c.modes ≡ modes_of (modules_of c)
  pub standings : map (λ table. table.items) c.standings.items ≡ map (λ d. map (standing_of d.records) (places d.records)) (modules_of c)
  pub scopes : map scopes_in c.scopes.items ≡ map (λ d. scopes_of d.records) (modules_of c)
  pub locals : AllZip HasLocals (modules_of c) c.locals.items

-- what stands at a place that is looked at can be compiled
pub record IsReady (c : Compiler) (p : Place) : Type 0 where
  pub state : IsState c
  pub within : IsIn (modules_of c) p
  pub seen : is_seen (records_at (modules_of c) p.0) p.1 ≡ true

-- as an instruction
pub record IsInstruction (c : Compiler) (p : Place) : Type 0 where
  pub ready : IsReady c p
  pub tag : is_body_tag (tag_at (modules_of c) p) ≡ true
  pub inner : is_top_level (records_at (modules_of c) p.0) p.1 ≡ false

-- as an instruction in the body of an element, or as a part of one
pub record IsInBody (c : Compiler) (inside p : Place) : Type 0 where
  pub instruction : IsInstruction c p
  pub «module» : p.0 ≡ inside.0
  pub behind : inside.1 < p.1

pub record IsPartOf (c : Compiler) (inside : Place) (part : Part) (p : Place) : Type 0 where
  pub ready : IsReady c p
  pub tag : tag_at (modules_of c) p ≡ part_tag part
  pub «module» : p.0 ≡ inside.0
  pub parent : (at (records_at (modules_of c) inside.0) p.1).parent ≡ Some inside.1
  pub behind : inside.1 < p.1
