-- What is written of a run reads back.
use Rattle.std.specs.Prelude.{◌≡◌, ◌<◌, ◌^◌, ℕ, All, Bool, List, [], Option, None, length}
use Rattle.xs_trace.specs.Cut.{Whole}
use Rattle.xs_trace.specs.Mark.{events_of}
use Rattle.xs_trace.specs.declared.event.Event.{Event}
use Rattle.xs_tree.specs.Record.{Record}
use Rattle.xs_tree.specs.Shape.{IsTree}
use Rattle.xs_tree.specs.Stripping.{without}
use Rattle.xs_modules.specs.Numbering.{ModuleData}
use Rattle.xs_modules.specs.Sound.{IsSound}
use Rattle.xs_result.specs.Built.{built}
use Rattle.xs_sheet.specs.declared.sheet.Sheet.{Sheet}
use Rattle.xs_result_lines.specs.Lines.{pyx}
use Rattle.xs_compile.specs.Represents.{Represents}
use Rattle.xs_result_laws.specs.Events.{HasTexts}
use Rattle.xs_result_laws.specs.ResultLaws.{AreDocuments, IsReadBack}
use Rattle.xs_body_spec.specs.Globals.{SettlesAll, Table, settled}
use Rattle.xs_body_spec.specs.World.{World}
use Rattle.xs_result_laws.specs.PutLaws.{root_cut}
use Rattle.xs_result_laws.specs.Named.{IsNamedSheet, IsNamedWorld}

-- ---- compiled stylesheets
-- each module is a tree (XPath 1.0, 5)
abbrev pub AreTrees : List ModuleData → Type 0
AreTrees ms = All (λ (d : ModuleData). IsTree d.records) ms

-- The modules of a stylesheet are documents, and so the names of what they are compiled to can be written (XSLT 1.0, 7.1).
abbrev pub SheetsAreNamed : Type 0
SheetsAreNamed = (ms : List ModuleData) (sheet : Sheet) → IsSound ms → AreTrees ms → Represents ms sheet → IsNamedSheet sheet

-- ---- runs
-- The world of a run of the stylesheet of these modules on these documents, from which white space may be stripped (XSLT 1.0, 3.4).
pub record IsRunOn (ms : List ModuleData) (rs : List Record) (w : World) : Type 0 where
  pub sound : IsSound ms
  pub modules : AreTrees ms
  pub stands : Represents ms w.sheet
  pub source : IsTree rs
  pub documents : AreDocuments rs
  pub marks : List Bool
  pub stripped : w.tree ≡ without marks rs
  pub tree : IsTree w.tree
  pub unsettled : w.globals ≡ []
  pub whole : w.grain ≡ None

abbrev pub RunsAreNamed : Type 0
RunsAreNamed = (ms : List ModuleData) (rs : List Record) (w : World) → IsRunOn ms rs w → IsNamedWorld w

-- the lines of events, whose texts are UTF-8 as those of a program are, read back as what stays of them
abbrev pub ReadsBack : List Event → Type 0
ReadsBack es = All HasTexts es → length es < 2 ^ 64 → IsReadBack (pyx es) (built es)

-- What a run puts, under whatever limits, reads back where it comes to its end.
abbrev pub RunsReadBack : Type 0
RunsReadBack = (ms : List ModuleData) (rs : List Record) (w : World) (given : List (List ℕ × List ℕ)) (budget : ℕ) (t : Table) (limit : ℕ)
    (most : Option ℕ) → IsRunOn ms rs w → SettlesAll w given budget (settled t) → (root_cut w t limit most).end ≡ Whole
    → ReadsBack (events_of (root_cut w t limit most).passed)
