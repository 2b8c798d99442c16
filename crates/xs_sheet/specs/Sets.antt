-- The attribute sets that bodies use (XSLT 1.0, 7.1.4).
use Rattle.std.specs.Prelude.{ℕ, zero, suc, ◌&&◌, not, Bool, List, [], ◌++◌, length, filter}
use Rattle.std.specs.List.{flat_map, list_any}
use Rattle.std.specs.Str.{bytes_eq}
use Rattle.xs_trace.specs.Label.{Label}
use Rattle.xs_sheet.specs.declared.body.Body.{Body, Body', Row_of-Instr, end_of-Instr, more_of-Instr}
use Rattle.xs_sheet.specs.declared.body.Choice.{Choice, Choice', Row_of-When, end_of-When, more_of-When}
use Rattle.xs_sheet.specs.declared.body.Content.{Content}
use Rattle.xs_sheet.specs.declared.body.Content.TheVariants.{Empty, Select, Body as Fragment}
use Rattle.xs_sheet.specs.declared.body.Fallbacks.{Fallbacks, Fallbacks', Row_of-Body, end_of-Body, more_of-Body}
use Rattle.xs_sheet.specs.declared.body.InstrKind.{InstrKind, Variable'}
use Rattle.xs_sheet.specs.declared.body.InstrKind.TheVariants.{ApplyTemplates, CallTemplate, ApplyImports, ForEach, ValueOf, CopyOf, Copy, Number, Choose, If, Text, Element, Attribute, Comment, Pi, Message, Literal, Extension}
use Rattle.xs_sheet.specs.declared.body.When.{When'}
use Rattle.xs_sheet.specs.declared.body.Passed.{Passed, Passed', Row_of-Binding, end_of-Binding, more_of-Binding}
use Rattle.xs_sheet.specs.declared.declarations.AttrSet.{AttrSet}

-- the names of the sets that are used anywhere in a body
abbrev mutual
  pub body_sets : Body → List Label
  body_sets (Body' n row) = instrs_sets row

  pub instrs_sets : {m : _} → Row_of-Instr m → List Label
  instrs_sets end_of-Instr = []
  instrs_sets (more_of-Instr site kind rest) = kind_sets kind ++ instrs_sets rest

  pub kind_sets : InstrKind → List Label
  kind_sets (ApplyTemplates nodes passed) = passed_sets passed
  kind_sets (CallTemplate template passed) = passed_sets passed
  kind_sets ApplyImports = []
  kind_sets (ForEach select sorts body) = body_sets body
  kind_sets (ValueOf select) = []
  kind_sets (CopyOf select) = []
  kind_sets (Copy sets body) = sets ++ body_sets body
  kind_sets (Number decl) = []
  kind_sets (Choose choice) = choice_sets choice
  kind_sets (If test body) = body_sets body
  kind_sets (Text bytes) = []
  kind_sets (Element name sets body) = sets ++ body_sets body
  kind_sets (Attribute name body) = body_sets body
  kind_sets (Comment body) = body_sets body
  kind_sets (Pi name body) = body_sets body
  kind_sets (Message terminate body) = body_sets body
  kind_sets (Variable' site name content) = content_sets content
  kind_sets (Literal start body) = start.sets ++ body_sets body
  kind_sets (Extension fallbacks) = fallbacks_sets fallbacks

  pub content_sets : Content → List Label
  content_sets Empty = []
  content_sets (Select e) = []
  content_sets (Fragment body) = body_sets body

  pub passed_sets : Passed → List Label
  passed_sets (Passed' n row) = bindings_sets row

  pub bindings_sets : {m : _} → Row_of-Binding m → List Label
  bindings_sets end_of-Binding = []
  bindings_sets (more_of-Binding site name content rest) = content_sets content ++ bindings_sets rest

  pub choice_sets : Choice → List Label
  choice_sets (Choice' n row otherwise) = whens_sets row ++ body_sets otherwise

  pub whens_sets : {m : _} → Row_of-When m → List Label
  whens_sets end_of-When = []
  whens_sets (more_of-When (When' test body) rest) = body_sets body ++ whens_sets rest

  pub fallbacks_sets : Fallbacks → List Label
  fallbacks_sets (Fallbacks' n row) = bodies_sets row

  pub bodies_sets : {m : _} → Row_of-Body m → List Label
  bodies_sets end_of-Body = []
  bodies_sets (more_of-Body body rest) = body_sets body ++ bodies_sets rest

abbrev pub is_same_label : Label → Label → Bool
is_same_label a b = bytes_eq a.uri b.uri && bytes_eq a.local b.local

-- the sets that a declaration uses: those that it names, and those that its attributes use
abbrev pub sets_of : AttrSet → List Label
sets_of s = s.sets ++ flat_map (λ i. kind_sets i.kind) s.attributes

-- those that all declarations of a name use
abbrev pub used_by : List AttrSet → Label → List Label
used_by all name = flat_map sets_of (filter (λ s. is_same_label name s.name) all)

-- these, those that they use, and so on, so many times
unfoldable pub reached : ℕ → List AttrSet → List Label → List Label
reached zero all names = names
reached (suc times) all names = names ++ reached times all (flat_map (used_by all) names)

-- no set uses itself, directly or not: a chain of uses goes through each declaration once at the most
abbrev pub is_apart : List AttrSet → AttrSet → Bool
is_apart all s = not (list_any (is_same_label s.name) (reached (length all) all (sets_of s)))
