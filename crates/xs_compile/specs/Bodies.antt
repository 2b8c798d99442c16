-- Which bodies of a compiled stylesheet represent which elements: for each instruction one case.
use Rattle.std.specs.Prelude.{◌≡◌, ℕ, not, Bool, true, false, List, [], ◌∷◌, filter, Option, Some, codes, if◌then◌else◌}
use Rattle.std.specs.List.{AllZip}
use Rattle.std.specs.Option.{option_and_then, unwrap_or}
use Rattle.std.specs.Str.{bytes_eq}
use Rattle.xs_modules.specs.Numbering.{ModuleData}
use Rattle.xs_elements.specs.declared.reading.Reading.TheVariants.{Literal as LiteralReading, Extension as ExtensionReading}
use Rattle.xs_elements.specs.declared.tags.Tag.{Tag}
use Rattle.xs_elements.specs.declared.tags.Tag.TheVariants.{Variable as VariableTag, ApplyTemplates as ApplyTemplatesTag, CallTemplate as CallTemplateTag, ApplyImports as ApplyImportsTag, ForEach as ForEachTag, ValueOf as ValueOfTag, CopyOf as CopyOfTag, Copy as CopyTag, Number as NumberTag, Choose as ChooseTag, Otherwise as OtherwiseTag, If as IfTag, Text as TextTag, Element as ElementTag, Attribute as AttributeTag, Comment as CommentTag, ProcessingInstruction as PiTag, Message as MessageTag, NoElement}
use Rattle.xs_elements.specs.Contents.{is_with_param}
use Rattle.xs_elements.specs.Nodes.{Name, has, value_of}
use Rattle.xs_elements.specs.Reading.{is_xslt}
use Rattle.xs_elements.specs.Tags.{is_fallback, is_sort, is_when, xslt_uri}
use Rattle.xs_sheet.specs.declared.body.Applied.{Applied}
use Rattle.xs_sheet.specs.declared.body.Body.{Body, Body', Row_of-Instr, end_of-Instr, more_of-Instr}
use Rattle.xs_sheet.specs.declared.body.Choice.{Choice, Choice', Row_of-When, end_of-When, more_of-When}
use Rattle.xs_sheet.specs.declared.body.Content.{Content}
use Rattle.xs_sheet.specs.declared.body.Content.TheVariants.{Empty, Select, Body as Fragment}
use Rattle.xs_sheet.specs.declared.body.Fallbacks.{Fallbacks, Fallbacks', Row_of-Body, end_of-Body, more_of-Body}
use Rattle.xs_sheet.specs.declared.body.InstrKind.{InstrKind, Variable'}
use Rattle.xs_sheet.specs.declared.body.InstrKind.TheVariants.{ApplyTemplates, CallTemplate, ApplyImports, ForEach, ValueOf, CopyOf, Copy, Number, Choose, If, Text, Element, Attribute, Comment, Pi, Message, Literal, Extension}
use Rattle.xs_sheet.specs.declared.body.Level.{Level}
use Rattle.xs_sheet.specs.declared.body.Level.TheVariants.{Single, Multiple, Any}
use Rattle.xs_sheet.specs.declared.body.LiteralStart.{LiteralStart}
use Rattle.xs_sheet.specs.declared.body.MadeName.{MadeName}
use Rattle.xs_sheet.specs.declared.body.NumberDecl.{NumberDecl}
use Rattle.xs_sheet.specs.declared.body.Passed.{Passed, Passed', Row_of-Binding, end_of-Binding, more_of-Binding}
use Rattle.xs_sheet.specs.declared.body.SortDecl.{SortDecl}
use Rattle.xs_sheet.specs.declared.body.When.{When, When'}
use Rattle.xs_sheet.specs.declared.scoped.ScopedExpr.{ScopedExpr}
use Rattle.xs_sheet.specs.declared.scoped.ValueTemplate.{ValueTemplate}
use Rattle.xs_structure.specs.Modules.{Place, records_at}
use Rattle.xs_trace.specs.Label.{Label}
use Rattle.xs_tree.specs.Record.{at, attributes, uri_at}
use Rattle.xs_compile.specs.Counted.{template_number}
use Rattle.xs_structure.specs.Excluded.{copied_spaces}
use Rattle.xs_compile.specs.Labels.{IsMode, label_at, labels_in, mode_at, own_label}
use Rattle.xs_compile.specs.Parsed.{Both, IsExpr, IsPattern, IsValueTemplate}
use Rattle.xs_structure.specs.Parts.{body_at, children_with, name_at, pairs_at, reading_at, tag_at, said_at, site_at, text_at, value_at}

-- The modules of a stylesheet, and its modes in the order that gives their numbers.
pub record Source : Type 0 where
  pub modules : List ModuleData
  pub modes : List Name

abbrev pub IsTag : Source → Place → Tag → Type 0
IsTag s p tag = tag_at s.modules p ≡ tag

-- ---- attributes: the value of one that has to be there, of one that may be there
abbrev pub IsExprOf : Source → Place → List ℕ → ScopedExpr → Type 0
IsExprOf s p local e = IsExpr s.modules p (said_at s.modules p local) e

abbrev pub IsExprIf : Source → Place → List ℕ → Option ScopedExpr → Type 0
IsExprIf s p local = Both (IsExpr s.modules p) (value_at s.modules p local)

abbrev pub IsTemplateOf : Source → Place → List ℕ → ValueTemplate → Type 0
IsTemplateOf s p local v = IsValueTemplate s.modules p (said_at s.modules p local) v

abbrev pub IsTemplateIf : Source → Place → List ℕ → Option ValueTemplate → Type 0
IsTemplateIf s p local = Both (IsValueTemplate s.modules p) (value_at s.modules p local)

-- the names of attribute sets that an instruction uses (XSLT 1.0, 7.1.4)
abbrev pub AreSets : Source → Place → List Label → Type 0
AreSets s p sets = sets ≡ labels_in (pairs_at s.modules p) (value_at s.modules p (codes "use-attribute-sets"))

-- ---- parts of instructions without a body
-- a sort key: without `select` it is `.` (10)
pub record IsSort (s : Source) (p : Place) (d : SortDecl) : Type 0 where
  pub select : IsExpr s.modules p (unwrap_or (value_at s.modules p (codes "select")) (codes ".")) d.select
  pub data_type : IsTemplateIf s p (codes "data-type") d.data_type
  pub order : IsTemplateIf s p (codes "order") d.order

abbrev pub AreSorts : Source → Place → List SortDecl → Type 0
AreSorts s p = AllZip (IsSort s) (children_with is_sort s.modules p)

-- the nodes to which templates are applied, and the mode (5.4, 5.7)
pub record IsApplied (s : Source) (p : Place) (a : Applied) : Type 0 where
  pub select : IsExprIf s p (codes "select") a.select
  pub mode : IsMode s.modes (mode_at s.modules p) a.mode
  pub sorts : AreSorts s p a.sorts

-- 7.7
abbrev pub level_named : List ℕ → Level
level_named value = if bytes_eq value (codes "multiple") then Multiple else if bytes_eq value (codes "any") then Any else Single

pub record IsNumber (s : Source) (p : Place) (d : NumberDecl) : Type 0 where
  pub level : d.level ≡ level_named (said_at s.modules p (codes "level"))
  pub count : Both (IsPattern s.modules p) (value_at s.modules p (codes "count")) d.count
  pub «from» : Both (IsPattern s.modules p) (value_at s.modules p (codes "from")) d.«from»
  pub value : IsExprIf s p (codes "value") d.value
  pub format : IsTemplateIf s p (codes "format") d.format
  pub grouping_separator : IsTemplateIf s p (codes "grouping-separator") d.grouping_separator
  pub grouping_size : IsTemplateIf s p (codes "grouping-size") d.grouping_size

-- a name that is made when the instruction runs (7.1.2, 7.1.3)
pub record IsMadeName (s : Source) (p : Place) (n : MadeName) : Type 0 where
  pub name : IsTemplateOf s p (codes "name") n.name
  pub namespace : IsTemplateIf s p (codes "namespace") n.namespace
  pub scope : n.scope ≡ pairs_at s.modules p

-- a literal element except its content: its attributes except those of XSLT are value templates (7.1.1)
abbrev pub IsPutAttribute : Source → Place → ℕ → Label × ValueTemplate → Type 0
IsPutAttribute s p a put =
    (put.0 ≡ own_label (records_at s.modules p.0) a) × IsValueTemplate s.modules p (at (records_at s.modules p.0) a).text put.1

abbrev pub put_attributes : Source → Place → List ℕ
put_attributes s p = filter (λ a. not (is_xslt (uri_at (records_at s.modules p.0) a))) (attributes (records_at s.modules p.0) p.1)

pub record IsLiteralStart (s : Source) (p : Place) (l : LiteralStart) : Type 0 where
  pub name : l.name ≡ own_label (records_at s.modules p.0) p.1
  pub spaces : l.spaces ≡ copied_spaces (records_at s.modules p.0) p.1
  pub sets : l.sets ≡ labels_in (pairs_at s.modules p) (value_of (records_at s.modules p.0) p.1 xslt_uri (codes "use-attribute-sets"))
  pub attributes : AllZip (IsPutAttribute s p) (put_attributes s p) l.attributes

-- ---- bodies
abbrev pub has_select : Source → Place → Bool
has_select s p = has (records_at s.modules p.0) p.1 (codes "select")

abbrev pub is_otherwise : Tag → Bool
is_otherwise OtherwiseTag = true
is_otherwise _ = false

-- the body of `xsl:otherwise`, empty where there is none (9.2)
abbrev pub first_body : Source → List Place → List Place
first_body s [] = []
first_body s (p ∷ ps) = body_at s.modules p

abbrev pub is_yes : List ℕ → Bool
is_yes value = bytes_eq value (codes "yes")

-- a text, or an `xsl:text` with all text in it (7.2)
abbrev pub is_text_or_element : Tag → Bool
is_text_or_element NoElement = true
is_text_or_element TextTag = true
is_text_or_element _ = false

abbrev mutual
  -- a body's instructions represent these places, one for each
  pub IsBody : Source → List Place → Body → Type 0
  IsBody s ps (Body' shape tag) = AreInstrs s ps tag

  pub AreInstrs : {m : _} → Source → List Place → Row_of-Instr m → Type 0
  AreInstrs s [] end_of-Instr = Unit {0}
  AreInstrs s [] (more_of-Instr site kind rest) = ⊥
  AreInstrs s (p ∷ ps) end_of-Instr = ⊥
  AreInstrs s (p ∷ ps) (more_of-Instr site kind rest) = (site ≡ site_at s.modules p) × IsKind s p kind × AreInstrs s ps rest

  pub IsKind : Source → Place → InstrKind → Type 0
  -- 5.4
  IsKind s p (ApplyTemplates nodes passed) = IsTag s p ApplyTemplatesTag × IsApplied s p nodes × IsPassed s (children_with is_with_param s.modules p) passed
  -- 6
  IsKind s p (CallTemplate template passed) =
      IsTag s p CallTemplateTag × (option_and_then (template_number s.modules) (name_at s.modules p) ≡ Some template)
      × IsPassed s (children_with is_with_param s.modules p) passed
  -- 5.6
  IsKind s p ApplyImports = IsTag s p ApplyImportsTag
  -- 8
  IsKind s p (ForEach select sorts body) =
      IsTag s p ForEachTag × IsExprOf s p (codes "select") select × AreSorts s p sorts × IsBody s (body_at s.modules p) body
  -- 7.6.1
  IsKind s p (ValueOf select) = IsTag s p ValueOfTag × IsExprOf s p (codes "select") select
  -- 11.3
  IsKind s p (CopyOf select) = IsTag s p CopyOfTag × IsExprOf s p (codes "select") select
  -- 7.5
  IsKind s p (Copy sets body) = IsTag s p CopyTag × AreSets s p sets × IsBody s (body_at s.modules p) body
  -- 7.7
  IsKind s p (Number decl) = IsTag s p NumberTag × IsNumber s p decl
  -- 9.2
  IsKind s p (Choose choice) = IsTag s p ChooseTag × IsChoice s p choice
  -- 9.1
  IsKind s p (If condition body) = IsTag s p IfTag × IsExprOf s p (codes "test") condition × IsBody s (body_at s.modules p) body
  -- 7.2
  IsKind s p (Text bytes) = (is_text_or_element (tag_at s.modules p) ≡ true) × (bytes ≡ text_at s.modules p)
  -- 7.1.2
  IsKind s p (Element name sets body) = IsTag s p ElementTag × IsMadeName s p name × AreSets s p sets × IsBody s (body_at s.modules p) body
  -- 7.1.3
  IsKind s p (Attribute name body) = IsTag s p AttributeTag × IsMadeName s p name × IsBody s (body_at s.modules p) body
  -- 7.4
  IsKind s p (Comment body) = IsTag s p CommentTag × IsBody s (body_at s.modules p) body
  -- 7.3
  IsKind s p (Pi name body) = IsTag s p PiTag × IsTemplateOf s p (codes "name") name × IsBody s (body_at s.modules p) body
  -- 13
  IsKind s p (Message terminate body) =
      IsTag s p MessageTag × (terminate ≡ is_yes (said_at s.modules p (codes "terminate"))) × IsBody s (body_at s.modules p) body
  -- 11.2
  IsKind s p (Variable' site name content) =
      IsTag s p VariableTag × (site ≡ site_at s.modules p) × (label_at s.modules p ≡ Some name) × IsContent s p content
  -- 7.1.1
  IsKind s p (Literal start body) = (reading_at s.modules p ≡ LiteralReading) × IsLiteralStart s p start × IsBody s (body_at s.modules p) body
  -- 14.1, 15
  IsKind s p (Extension fallbacks) = (reading_at s.modules p ≡ ExtensionReading) × AreFallbacks s (children_with is_fallback s.modules p) fallbacks

  -- what a variable, a parameter or a passed parameter is bound to (11.2): by `select`, by its content, or the empty string
  pub IsContent : Source → Place → Content → Type 0
  IsContent s p Empty = (has_select s p ≡ false) × (body_at s.modules p ≡ [])
  IsContent s p (Select e) = (has_select s p ≡ true) × IsExprOf s p (codes "select") e
  IsContent s p (Fragment body) = (has_select s p ≡ false) × (body_at s.modules p ≡ [] → ⊥) × IsBody s (body_at s.modules p) body

  -- the parameters that are passed (11.6)
  pub IsPassed : Source → List Place → Passed → Type 0
  IsPassed s ps (Passed' shape tag) = AreBindings s ps tag

  pub AreBindings : {m : _} → Source → List Place → Row_of-Binding m → Type 0
  AreBindings s [] end_of-Binding = Unit {0}
  AreBindings s [] (more_of-Binding site name content rest) = ⊥
  AreBindings s (p ∷ ps) end_of-Binding = ⊥
  AreBindings s (p ∷ ps) (more_of-Binding site name content rest) =
      (site ≡ site_at s.modules p) × (label_at s.modules p ≡ Some name) × IsContent s p content × AreBindings s ps rest

  -- 9.2
  pub IsChoice : Source → Place → Choice → Type 0
  IsChoice s p (Choice' shape tag otherwise) =
      AreWhens s (children_with is_when s.modules p) tag × IsBody s (first_body s (children_with is_otherwise s.modules p)) otherwise

  pub AreWhens : {m : _} → Source → List Place → Row_of-When m → Type 0
  AreWhens s [] end_of-When = Unit {0}
  AreWhens s [] (more_of-When when rest) = ⊥
  AreWhens s (p ∷ ps) end_of-When = ⊥
  AreWhens s (p ∷ ps) (more_of-When when rest) = IsWhen s p when × AreWhens s ps rest

  pub IsWhen : Source → Place → When → Type 0
  IsWhen s p (When' condition body) = IsExprOf s p (codes "test") condition × IsBody s (body_at s.modules p) body

  -- 15
  pub AreFallbacks : Source → List Place → Fallbacks → Type 0
  AreFallbacks s ps (Fallbacks' shape tag) = AreBodies s ps tag

  pub AreBodies : {m : _} → Source → List Place → Row_of-Body m → Type 0
  AreBodies s [] end_of-Body = Unit {0}
  AreBodies s [] (more_of-Body body rest) = ⊥
  AreBodies s (p ∷ ps) end_of-Body = ⊥
  AreBodies s (p ∷ ps) (more_of-Body body rest) = IsBody s (body_at s.modules p) body × AreBodies s ps rest
