-- What is written of a run reads back.
use Rattle.std.proofs.Common.{ℕ, zero, suc, List, [], ◌∷◌, All, arith, subst, sym}
use Rattle.std.specs.List.{AllByRecursion}
use Rattle.std.proofs.lemmas.List.Elements.{All-head, All-tail}
use Rattle.xs_trace.specs.Mark.{events_of}
use Rattle.xs_tree.specs.Record.{Record}
use Rattle.xs_tree.specs.Shape.{IsTree}
use Rattle.xs_build.specs.DocumentTree.{IsDocument, IsOneDocument}
use Rattle.xs_making.specs.Laws.{AreWell}
use Rattle.xs_modules.specs.Numbering.{ModuleData}
use Rattle.xs_modules.specs.Sound.{HasLines}
use Rattle.xs_result_laws.specs.ResultLaws.{AreDocuments, DocumentsAreWell}
use Rattle.xs_structure.specs.Modules.{records_at}
use Rattle.xs_compile.specs.Modes.{modes_of}
use Rattle.xs_result_laws.specs.ResultLaws.{ResultsReadBack}
use Rattle.xs_result_laws.specs.PutLaws.{RunsPutResults, StrippedAreWell, root_cut}
use Rattle.xs_result_laws.specs.Named.{IsNamedGlobal}
use Rattle.xs_result_laws.specs.RunLaws.{AreTrees, RunsAreNamed, RunsReadBack, SheetsAreNamed}
use Rattle.xs_result_laws.proofs.SheetLemmas.{sheet_named}

one_document : (rs : List Record) → IsOneDocument rs → AreDocuments rs
one_document rs one root within kind = subst (IsDocument rs) (sym (one.one root within kind)) one.document

modules_well : DocumentsAreWell → (ms : List ModuleData) → AreTrees ms → All (λ (d : ModuleData). HasLines d.records d.lines) ms
    → AllByRecursion (λ (d : ModuleData). AreWell d.records) ms
modules_well law [] trees documents = tt
modules_well law (d ∷ ms) trees documents =
    let tree = All-head (λ (x : ModuleData). IsTree x.records) d ms trees in
    let document = All-head (λ (x : ModuleData). HasLines x.records x.lines) d ms documents in (
      law d.records tree (one_document d.records document.document),
      modules_well law ms (All-tail (λ (x : ModuleData). IsTree x.records) d ms trees)
          (All-tail (λ (x : ModuleData). HasLines x.records x.lines) d ms documents),
    )

-- past the last module there are no nodes
records_well : (ms : List ModuleData) (m : ℕ) → AllByRecursion (λ (d : ModuleData). AreWell d.records) ms → AreWell (records_at ms m)
records_well [] m h = λ k within. absurd (omega (arith, within))
records_well (d ∷ ms) zero h = h.0
records_well (d ∷ ms) (suc m) h = records_well ms m h.1

pub sheets_are_named : DocumentsAreWell → SheetsAreNamed
sheets_are_named law ms sheet sound trees stands =
    sheet_named (record { modules = ms; modes = modes_of ms }) (λ m. records_well ms m (modules_well law ms trees sound.documents)) sheet stands

pub runs_are_named : SheetsAreNamed → DocumentsAreWell → StrippedAreWell → RunsAreNamed
runs_are_named sheets documents stripped ms rs w run = record {
  sheet = sheets ms w.sheet run.sound run.modules run.stands;
  shape = run.tree;
  tree = subst AreWell (sym run.stripped) (stripped run.marks rs (documents rs run.source run.documents));
  globals = subst (AllByRecursion IsNamedGlobal) (sym run.unsettled) tt;
  whole = run.whole;
}

pub runs_read_back : RunsAreNamed → RunsPutResults → ResultsReadBack → RunsReadBack
runs_read_back named put read ms rs w given budget t limit most run settles end texts few =
    read (events_of (root_cut w t limit most).passed) (put w given budget t limit most (named ms rs w run) settles end) texts few
