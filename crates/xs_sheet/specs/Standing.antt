-- Where slots, templates and modules stand that a body refers to.
use Rattle.std.specs.Prelude.{ℕ, ◌+◌, ◌&&◌, ◌||◌, nat_lt, not, Bool, true, false, Option, Some, None}
use Rattle.std.specs.List.{list_all}
use Rattle.std.specs.Option.{option_map_or}
use Rattle.xs_trace.specs.declared.item.Site.{Site}
use Rattle.xs_sheet.specs.declared.body.Applied.{Applied}
use Rattle.xs_sheet.specs.declared.body.Body.{Body, Body', Row_of-Instr, end_of-Instr, more_of-Instr}
use Rattle.xs_sheet.specs.declared.body.Choice.{Choice, Choice', Row_of-When, end_of-When, more_of-When}
use Rattle.xs_sheet.specs.declared.body.Content.{Content}
use Rattle.xs_sheet.specs.declared.body.Content.TheVariants.{Empty, Select, Body as Fragment}
use Rattle.xs_sheet.specs.declared.body.Fallbacks.{Fallbacks, Fallbacks', Row_of-Body, end_of-Body, more_of-Body}
use Rattle.xs_sheet.specs.declared.body.InstrKind.{InstrKind, Variable'}
use Rattle.xs_sheet.specs.declared.body.InstrKind.TheVariants.{ApplyTemplates, CallTemplate, ApplyImports, ForEach, ValueOf, CopyOf, Copy, Number, Choose, If, Text, Element, Attribute, Comment, Pi, Message, Literal, Extension}
use Rattle.xs_sheet.specs.declared.body.MadeName.{MadeName}
use Rattle.xs_sheet.specs.declared.body.NumberDecl.{NumberDecl}
use Rattle.xs_sheet.specs.declared.body.When.{When'}
use Rattle.xs_sheet.specs.declared.body.Passed.{Passed, Passed', Row_of-Binding, end_of-Binding, more_of-Binding}
use Rattle.xs_sheet.specs.declared.body.SortDecl.{SortDecl}
use Rattle.xs_sheet.specs.declared.scoped.ScopedExpr.{ScopedExpr}
use Rattle.xs_sheet.specs.declared.scoped.ScopedPattern.{ScopedPattern}
use Rattle.xs_sheet.specs.declared.scoped.ValueTemplate.{ValueTemplate}
use Rattle.xs_sheet.specs.Slots.{slots_taken}
use Rattle.xs_xpath.specs.declared.name.Slot.{Slot}
use Rattle.xs_xpath.specs.declared.name.Slot.TheVariants.{Local, Global}
use Rattle.xs_xpath.specs.Templates.{Part, text, computed}
use Rattle.xs_xpath.specs.Tree.{Tree, Trees, number, literal, variable, call, negative, chain, group, here, root, step, descend, filter, path, no_trees, first_tree}
use Rattle.xs_xpath.specs.Uses.{uses_current, uses_variables}

-- how many globals, templates and modules a sheet has, and a bound on the local bindings that are visible at one place
pub record Counts : Type 0 where
  pub globals : ℕ
  pub templates : ℕ
  pub modules : ℕ
  pub bound : ℕ

-- ---- slots: those of the local bindings that are visible at a place, and of all globals
abbrev pub slot_stands : Counts → (locals : ℕ) → Option Slot → Bool
slot_stands counts locals None = false
slot_stands counts locals (Some (Local k)) = nat_lt k locals
slot_stands counts locals (Some (Global k)) = nat_lt k counts.globals

abbrev mutual
  pub tree_stands : Counts → (locals : ℕ) → Tree → Bool
  tree_stands counts locals (number n) = true
  tree_stands counts locals (literal bytes) = true
  tree_stands counts locals (variable uri local slot) = slot_stands counts locals slot
  tree_stands counts locals (call function es) = trees_stand counts locals es
  tree_stands counts locals (negative m e) = tree_stands counts locals e
  tree_stands counts locals (chain ops es) = trees_stand counts locals es
  tree_stands counts locals (group e) = tree_stands counts locals e
  tree_stands counts locals here = true
  tree_stands counts locals root = true
  tree_stands counts locals (step axis which es) = trees_stand counts locals es
  tree_stands counts locals descend = true
  tree_stands counts locals (filter e es) = tree_stands counts locals e && trees_stand counts locals es
  tree_stands counts locals (path e es) = tree_stands counts locals e && trees_stand counts locals es

  pub trees_stand : Counts → (locals : ℕ) → Trees → Bool
  trees_stand counts locals no_trees = true
  trees_stand counts locals (first_tree e es) = tree_stands counts locals e && trees_stand counts locals es

abbrev pub expr_stands : Counts → (locals : ℕ) → ScopedExpr → Bool
expr_stands counts locals e = tree_stands counts locals e.expr

abbrev pub part_stands : Counts → (locals : ℕ) → Part → Bool
part_stands counts locals (text bytes) = true
part_stands counts locals (computed e) = tree_stands counts locals e

abbrev pub template_stands : Counts → (locals : ℕ) → ValueTemplate → Bool
template_stands counts locals v = list_all (part_stands counts locals) v.parts

-- where it is there
abbrev pub expr_stands_if : Counts → (locals : ℕ) → Option ScopedExpr → Bool
expr_stands_if counts locals e = option_map_or (expr_stands counts locals) e true

abbrev pub template_stands_if : Counts → (locals : ℕ) → Option ValueTemplate → Bool
template_stands_if counts locals v = option_map_or (template_stands counts locals) v true

-- ---- patterns hold no variable and no `current()` (XSLT 1.0, 5.3 and 12.4; of `xsl:number` this project's own)
abbrev pub is_free : Tree → Bool
is_free e = not (uses_variables e || uses_current e)

abbrev pub pattern_is_free : ScopedPattern → Bool
pattern_is_free p = list_all is_free p.pattern

abbrev pub pattern_is_free_if : Option ScopedPattern → Bool
pattern_is_free_if p = option_map_or pattern_is_free p true

-- ---- instructions
abbrev pub sort_stands : Counts → (locals : ℕ) → SortDecl → Bool
sort_stands counts locals s =
    expr_stands counts locals s.select && template_stands_if counts locals s.data_type && template_stands_if counts locals s.order

abbrev pub name_stands : Counts → (locals : ℕ) → MadeName → Bool
name_stands counts locals n = template_stands counts locals n.name && template_stands_if counts locals n.namespace

abbrev pub number_stands : Counts → (locals : ℕ) → NumberDecl → Bool
number_stands counts locals n =
    pattern_is_free_if n.count && pattern_is_free_if n.from && expr_stands_if counts locals n.value && template_stands_if counts locals n.format
    && template_stands_if counts locals n.grouping_separator && template_stands_if counts locals n.grouping_size

abbrev pub nodes_stand : Counts → (locals : ℕ) → Applied → Bool
nodes_stand counts locals a = expr_stands_if counts locals a.select && list_all (sort_stands counts locals) a.sorts

-- the place of an instruction is in a module of the sheet
abbrev pub site_stands : Counts → Site → Bool
site_stands counts site = nat_lt site.module counts.modules

-- The local bindings that are visible at an instruction are those before its body, and the variables before it in its body
-- (XSLT 1.0, 11.5).
abbrev mutual
  pub body_stands : Counts → (locals : ℕ) → Body → Bool
  body_stands counts locals (Body' n row) = instrs_stand counts locals row

  pub instrs_stand : {m : _} → Counts → (locals : ℕ) → Row_of-Instr m → Bool
  instrs_stand counts locals end_of-Instr = nat_lt locals counts.bound
  instrs_stand counts locals (more_of-Instr site kind rest) =
      site_stands counts site && kind_stands counts locals kind && instrs_stand counts (locals + slots_taken kind) rest

  pub kind_stands : Counts → (locals : ℕ) → InstrKind → Bool
  kind_stands counts locals (ApplyTemplates nodes passed) = nodes_stand counts locals nodes && passed_stands counts locals passed
  kind_stands counts locals (CallTemplate template passed) = nat_lt template counts.templates && passed_stands counts locals passed
  kind_stands counts locals ApplyImports = true
  kind_stands counts locals (ForEach select sorts body) =
      expr_stands counts locals select && list_all (sort_stands counts locals) sorts && body_stands counts locals body
  kind_stands counts locals (ValueOf select) = expr_stands counts locals select
  kind_stands counts locals (CopyOf select) = expr_stands counts locals select
  kind_stands counts locals (Copy sets body) = body_stands counts locals body
  kind_stands counts locals (Number decl) = number_stands counts locals decl
  kind_stands counts locals (Choose choice) = choice_stands counts locals choice
  kind_stands counts locals (If test body) = expr_stands counts locals test && body_stands counts locals body
  kind_stands counts locals (Text bytes) = true
  kind_stands counts locals (Element name sets body) = name_stands counts locals name && body_stands counts locals body
  kind_stands counts locals (Attribute name body) = name_stands counts locals name && body_stands counts locals body
  kind_stands counts locals (Comment body) = body_stands counts locals body
  kind_stands counts locals (Pi name body) = template_stands counts locals name && body_stands counts locals body
  kind_stands counts locals (Message terminate body) = body_stands counts locals body
  kind_stands counts locals (Variable' site name content) = site_stands counts site && content_stands counts locals content
  kind_stands counts locals (Literal start body) =
      list_all (λ a. template_stands counts locals a.1) start.attributes && body_stands counts locals body
  kind_stands counts locals (Extension fallbacks) = fallbacks_stand counts locals fallbacks

  pub content_stands : Counts → (locals : ℕ) → Content → Bool
  content_stands counts locals Empty = true
  content_stands counts locals (Select e) = expr_stands counts locals e
  content_stands counts locals (Fragment body) = body_stands counts locals body

  pub passed_stands : Counts → (locals : ℕ) → Passed → Bool
  passed_stands counts locals (Passed' n row) = bindings_stand counts locals row

  pub bindings_stand : {m : _} → Counts → (locals : ℕ) → Row_of-Binding m → Bool
  bindings_stand counts locals end_of-Binding = true
  bindings_stand counts locals (more_of-Binding site name content rest) =
      site_stands counts site && content_stands counts locals content && bindings_stand counts locals rest

  pub choice_stands : Counts → (locals : ℕ) → Choice → Bool
  choice_stands counts locals (Choice' n row otherwise) = whens_stand counts locals row && body_stands counts locals otherwise

  pub whens_stand : {m : _} → Counts → (locals : ℕ) → Row_of-When m → Bool
  whens_stand counts locals end_of-When = true
  whens_stand counts locals (more_of-When (When' test body) rest) =
      expr_stands counts locals test && body_stands counts locals body && whens_stand counts locals rest

  pub fallbacks_stand : Counts → (locals : ℕ) → Fallbacks → Bool
  fallbacks_stand counts locals (Fallbacks' n row) = bodies_stand counts locals row

  pub bodies_stand : {m : _} → Counts → (locals : ℕ) → Row_of-Body m → Bool
  bodies_stand counts locals end_of-Body = true
  bodies_stand counts locals (more_of-Body body rest) = body_stands counts locals body && bodies_stand counts locals rest
