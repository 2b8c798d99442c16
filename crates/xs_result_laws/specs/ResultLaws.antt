-- What is written of a result reads back.
use Rattle.std.specs.Prelude.{◌≡◌, ℕ, ◌<◌, ◌^◌, All, List, [], ◌∷◌, ◌++◌, true, false, codes, length}
use Rattle.xs_pyx.specs.Writing.{written}
use Rattle.xs_pyx.specs.declared.line.Line.TheVariants as line
use Rattle.xs_trace.specs.Label.{Label}
use Rattle.xs_trace.specs.declared.event.Event.{Event}
use Rattle.xs_trace.specs.declared.event.Event.TheVariants.{Start, End}
use Rattle.xs_tree.specs.declared.kinds.Kind.TheVariants.{Root}
use Rattle.xs_tree.specs.Record.{Record, at}
use Rattle.xs_tree.specs.Shape.{IsTree}
use Rattle.xs_build.specs.Document.{Outcome, tree, refused, document}
use Rattle.xs_build.specs.DocumentTree.{IsDocument}
use Rattle.xs_build.specs.Faults.{too_large}
use Rattle.xs_making.specs.Laws.{AreWell}
use Rattle.xs_result.specs.Built.{built}
use Rattle.xs_result_lines.specs.Lines.{pyx}
use Rattle.xs_result_laws.specs.Events.{HasTexts, IsResult, has_one_top}
use Rattle.xs_result_laws.specs.TreeEvents.{plain, tree_events}

-- Bytes that represent this represent these events: the same elements, attributes with their values, texts, comments and instructions,
-- in the same order and nested as they are, each with its URI and its local part. Else they are too large (11).
abbrev pub Represents : Outcome → List Event → Type 0
Represents (tree rs lines) es = tree_events rs ≡ plain es
Represents (refused number line) es = number ≡ too_large

-- ---- inside one element more, as a result that is no document needs it
abbrev pub outer_name : List ℕ
outer_name = codes "result"

abbrev pub outer_label : Label
outer_label = record { uri = []; local = outer_name; prefix = [] }

abbrev pub with_outer_lines : List ℕ → List ℕ
with_outer_lines bytes = written (line.Start outer_name) ++ bytes ++ written (line.End outer_name)

abbrev pub with_outer_events : List Event → List Event
with_outer_events es = Start outer_label ∷ (es ++ End ∷ [])

-- Inside one element more the bytes represent the events, whatever they are; by themselves where they are one document.
pub record IsReadBack (bytes : List ℕ) (es : List Event) : Type 0 where
  pub inside : (limit : ℕ) → Represents (document limit (with_outer_lines bytes)) (with_outer_events es)
  pub alone : has_one_top 0 false es ≡ true → (limit : ℕ) → Represents (document limit bytes) es

-- What is written of a result reads back as what stays of it.
abbrev pub ResultsReadBack : Type 0
ResultsReadBack = (es : List Event) → IsResult es → All HasTexts es → length es < 2 ^ 64 → IsReadBack (pyx es) (built es)

-- ---- copies
-- each document in a tree is a well-formed one (XPath 1.0, 5)
abbrev pub AreDocuments : List Record → Type 0
AreDocuments rs = (root : ℕ) → root < length rs → (at rs root).kind ≡ Root → IsDocument rs root

-- The nodes of documents have names that can be written, as `copies_are_well` of xs_making asks.
abbrev pub DocumentsAreWell : Type 0
DocumentsAreWell = (rs : List Record) → IsTree rs → AreDocuments rs → AreWell rs
