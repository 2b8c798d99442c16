-- Compiled stylesheets, values and entries of which each name can be put (Namespaces in XML 1.0, 3 and 4).
use Rattle.std.specs.Prelude.{◌≡◌, ℕ, List, Option, Some, None, true, false}
use Rattle.std.specs.List.{AllByRecursion}
use Rattle.std.specs.Str.{bytes_eq}
use Rattle.xs_text.specs.Names.{is_ncname}
use Rattle.xs_trace.specs.Label.{Label}
use Rattle.xs_sheet.specs.declared.body.Binding.{Binding}
use Rattle.xs_sheet.specs.declared.body.Body.{Body, Body', Row_of-Instr, end_of-Instr, more_of-Instr}
use Rattle.xs_sheet.specs.declared.body.Choice.{Choice, Choice', Row_of-When, end_of-When, more_of-When}
use Rattle.xs_sheet.specs.declared.body.Content.{Content}
use Rattle.xs_sheet.specs.declared.body.Content.TheVariants.{Empty, Select, Body as Fragment}
use Rattle.xs_sheet.specs.declared.body.Fallbacks.{Fallbacks, Fallbacks', Row_of-Body, end_of-Body, more_of-Body}
use Rattle.xs_sheet.specs.declared.body.Instr.{Instr}
use Rattle.xs_sheet.specs.declared.body.InstrKind.{InstrKind, Variable'}
use Rattle.xs_sheet.specs.declared.body.InstrKind.TheVariants.{ApplyTemplates, CallTemplate, ApplyImports, ForEach, ValueOf, CopyOf, Copy, Number, Choose, If}
use Rattle.xs_sheet.specs.declared.body.InstrKind.TheVariants.{Text, Element, Attribute, Comment, Pi, Message, Literal, Extension}
use Rattle.xs_sheet.specs.declared.body.LiteralStart.{LiteralStart}
use Rattle.xs_sheet.specs.declared.body.MadeName.{MadeName}
use Rattle.xs_sheet.specs.declared.body.Passed.{Passed, Passed', Row_of-Binding, end_of-Binding, more_of-Binding}
use Rattle.xs_sheet.specs.declared.body.When.{When'}
use Rattle.xs_sheet.specs.declared.declarations.Alias.{Alias}
use Rattle.xs_sheet.specs.declared.declarations.AttrSet.{AttrSet}
use Rattle.xs_sheet.specs.declared.declarations.Global.{Global}
use Rattle.xs_sheet.specs.declared.declarations.Template.{Template}
use Rattle.xs_sheet.specs.declared.scoped.ValueTemplate.{ValueTemplate}
use Rattle.xs_sheet.specs.declared.sheet.Sheet.{Sheet}
use Rattle.xs_value.specs.declared.value.Value.{Value}
use Rattle.xs_value.specs.declared.value.Value.TheVariants as value
use Rattle.xs_tree.specs.Shape.{IsTree}
use Rattle.xs_making.specs.Labels.{is_reserved, xmlns_uri}
use Rattle.xs_making.specs.Laws.{AreWell, BindsNoXmlns, is_prefix}
use Rattle.xs_result_laws.specs.Events.{IsResult}
use Rattle.xs_body_spec.specs.Tasks.{Job, Params, body_job, rules_job}
use Rattle.xs_body_spec.specs.Trace.{Entry, named, fitting, overridden, using}
use Rattle.xs_body_spec.specs.World.{World}

-- ---- names of literal elements, as those of a document
pub record IsNamedLabel (name : Label) : Type 0 where
  pub local : is_ncname name.local ≡ true
  pub prefix : is_prefix name.prefix ≡ true
  pub uri : bytes_eq name.uri xmlns_uri ≡ false

pub record IsNamedSpace (s : List ℕ × List ℕ) : Type 0 where
  pub prefix : is_prefix s.0 ≡ true
  pub free : is_reserved s.0 ≡ false
  pub uri : bytes_eq s.1 xmlns_uri ≡ false

pub record IsNamedStart (start : LiteralStart) : Type 0 where
  pub name : IsNamedLabel start.name
  pub spaces : AllByRecursion IsNamedSpace start.spaces
  pub attributes : AllByRecursion (λ (a : Label × ValueTemplate). IsNamedLabel a.0) start.attributes

abbrev pub IsNamedMade : MadeName → Type 0
IsNamedMade name = BindsNoXmlns name.scope

-- ---- bodies
abbrev mutual
  pub IsNamedBody : Body → Type 0
  IsNamedBody (Body' n row) = IsNamedRow row

  pub IsNamedRow : {m : _} → Row_of-Instr m → Type 0
  IsNamedRow end_of-Instr = Unit {0}
  IsNamedRow (more_of-Instr p kind rest) = IsNamedKind kind × IsNamedRow rest

  pub IsNamedKind : InstrKind → Type 0
  IsNamedKind (ApplyTemplates nodes passed) = IsNamedPassed passed
  IsNamedKind (CallTemplate template passed) = IsNamedPassed passed
  IsNamedKind ApplyImports = Unit {0}
  IsNamedKind (ForEach select sorts body) = IsNamedBody body
  IsNamedKind (ValueOf select) = Unit {0}
  IsNamedKind (CopyOf select) = Unit {0}
  IsNamedKind (Copy sets body) = IsNamedBody body
  IsNamedKind (Number decl) = Unit {0}
  IsNamedKind (Choose choice) = IsNamedChoice choice
  IsNamedKind (If test body) = IsNamedBody body
  IsNamedKind (Text text) = Unit {0}
  IsNamedKind (Element name sets body) = IsNamedMade name × IsNamedBody body
  IsNamedKind (Attribute name body) = IsNamedMade name × IsNamedBody body
  IsNamedKind (Comment body) = IsNamedBody body
  IsNamedKind (Pi name body) = IsNamedBody body
  IsNamedKind (Message terminate body) = IsNamedBody body
  IsNamedKind (Variable' site name content) = IsNamedContent content
  IsNamedKind (Literal start body) = IsNamedStart start × IsNamedBody body
  IsNamedKind (Extension fallbacks) = IsNamedFallbacks fallbacks

  pub IsNamedContent : Content → Type 0
  IsNamedContent Empty = Unit {0}
  IsNamedContent (Select e) = Unit {0}
  IsNamedContent (Fragment body) = IsNamedBody body

  pub IsNamedPassed : Passed → Type 0
  IsNamedPassed (Passed' n row) = AreNamedBindings row

  pub AreNamedBindings : {m : _} → Row_of-Binding m → Type 0
  AreNamedBindings end_of-Binding = Unit {0}
  AreNamedBindings (more_of-Binding site name content rest) = IsNamedContent content × AreNamedBindings rest

  pub IsNamedChoice : Choice → Type 0
  IsNamedChoice (Choice' n row otherwise) = AreNamedWhens row × IsNamedBody otherwise

  pub AreNamedWhens : {m : _} → Row_of-When m → Type 0
  AreNamedWhens end_of-When = Unit {0}
  AreNamedWhens (more_of-When (When' test body) rest) = IsNamedBody body × AreNamedWhens rest

  pub IsNamedFallbacks : Fallbacks → Type 0
  IsNamedFallbacks (Fallbacks' n row) = AreNamedBodies row

  pub AreNamedBodies : {m : _} → Row_of-Body m → Type 0
  AreNamedBodies end_of-Body = Unit {0}
  AreNamedBodies (more_of-Body body rest) = IsNamedBody body × AreNamedBodies rest

-- ---- a stylesheet
abbrev pub IsNamedBinding : Binding → Type 0
IsNamedBinding b = IsNamedContent b.content

pub record IsNamedTemplate (t : Template) : Type 0 where
  pub params : AllByRecursion IsNamedBinding t.params
  pub body : IsNamedBody t.body

abbrev pub AreNamedInstrs : List Instr → Type 0
AreNamedInstrs is = AllByRecursion (λ (i : Instr). IsNamedKind i.kind) is

abbrev pub IsNamedSet : AttrSet → Type 0
IsNamedSet s = AreNamedInstrs s.attributes

abbrev pub IsNamedAlias : Alias → Type 0
IsNamedAlias a = bytes_eq a.to_uri xmlns_uri ≡ false

pub record IsNamedSheet (sheet : Sheet) : Type 0 where
  pub templates : AllByRecursion IsNamedTemplate sheet.templates
  pub globals : AllByRecursion (λ (g : Global). IsNamedBinding g.binding) sheet.globals
  pub sets : AllByRecursion IsNamedSet sheet.sets
  pub aliases : AllByRecursion IsNamedAlias sheet.aliases

-- ---- values, and what a run begins with
abbrev pub IsNamedValue : Value → Type 0
IsNamedValue (value.Piece events) = IsResult events
IsNamedValue (value.Nodes nodes) = Unit {0}
IsNamedValue (value.Chars text) = Unit {0}
IsNamedValue (value.Bool b) = Unit {0}
IsNamedValue (value.Number n) = Unit {0}

abbrev pub AreNamedValues : List Value → Type 0
AreNamedValues vs = AllByRecursion IsNamedValue vs

abbrev pub IsNamedGlobal : Option Value → Type 0
IsNamedGlobal None = Unit {0}
IsNamedGlobal (Some v) = IsNamedValue v

pub record IsNamedWorld (w : World) : Type 0 where
  pub sheet : IsNamedSheet w.sheet
  pub shape : IsTree w.tree
  pub tree : AreWell w.tree
  pub globals : AllByRecursion IsNamedGlobal w.globals
  pub whole : w.grain ≡ None

abbrev pub IsNamedParams : Params → Type 0
IsNamedParams ps = AreNamedValues ps.values

abbrev pub IsNamedEntry : Entry → Type 0
IsNamedEntry (named template ps) = IsNamedParams ps
IsNamedEntry (fitting mode ps) = IsNamedParams ps
IsNamedEntry (overridden current) = Unit {0}
IsNamedEntry (using names) = Unit {0}

abbrev pub IsNamedJob : Job → Type 0
IsNamedJob (body_job body vs) = IsNamedBody body × AreNamedValues vs
IsNamedJob (rules_job mode ps) = IsNamedParams ps
