-- Which parts of a compiled stylesheet represent which declarations of its modules.
use Rattle.std.specs.Prelude.{◌≡◌, Bool, true, false, [], ◌∷◌, Some, None, option_map, codes}
use Rattle.std.specs.List.{AllZip}
use Rattle.xs_elements.specs.declared.tags.Tag.{Tag}
use Rattle.xs_elements.specs.declared.tags.Tag.TheVariants.{Key, Attribute}
use Rattle.xs_elements.specs.Tags.{is_param, is_template}
use Rattle.xs_sheet.specs.declared.body.Binding.{Binding}
use Rattle.xs_sheet.specs.declared.body.Instr.{Instr}
use Rattle.xs_sheet.specs.declared.declarations.AttrSet.{AttrSet}
use Rattle.xs_sheet.specs.declared.declarations.Global.{Global}
use Rattle.xs_sheet.specs.declared.declarations.KeyDecl.{KeyDecl}
use Rattle.xs_sheet.specs.declared.declarations.Template.{Template}
use Rattle.xs_structure.specs.Modules.{Place, precedence_at}
use Rattle.xs_compile.specs.Labels.{IsMode, label_at, mode_at}
use Rattle.xs_structure.specs.Parts.{body_at, children_with, imports_from_at, tag_at, said_at, site_at, value_at}
use Rattle.xs_compile.specs.Priorities.{priority_in}
use Rattle.xs_compile.specs.Bodies.{Source, AreSets, IsBody, IsContent, IsExprOf, IsKind}
use Rattle.xs_compile.specs.Parsed.{Both, IsPattern}

-- ---- templates
-- a binding: of a global, or a parameter (11)
pub record IsBinding (s : Source) (p : Place) (b : Binding) : Type 0 where
  pub site : b.site ≡ site_at s.modules p
  pub name : label_at s.modules p ≡ Some b.name
  pub content : IsContent s p b.content

-- an `xsl:template` (5.3, 6)
pub record IsRule (s : Source) (p : Place) (t : Template) : Type 0 where
  pub pattern : Both (IsPattern s.modules p) (value_at s.modules p (codes "match")) t.pattern
  pub name : t.name ≡ label_at s.modules p
  pub priority : t.priority ≡ option_map priority_in (value_at s.modules p (codes "priority"))
  pub mode : IsMode s.modes (mode_at s.modules p) t.mode
  pub params : AllZip (IsBinding s) (children_with is_param s.modules p) t.params
  pub body : IsBody s (body_at s.modules p) t.body

-- a literal element that is a whole module: a template for the root, with the element as its content (2.3)
pub record IsWholeModule (s : Source) (p : Place) (t : Template) : Type 0 where
  pub pattern : Both (IsPattern s.modules p) (Some (codes "/")) t.pattern
  pub name : t.name ≡ None
  pub priority : t.priority ≡ None
  pub mode : t.mode ≡ 0
  pub params : t.params ≡ []
  pub body : IsBody s (p ∷ []) t.body

-- either of them
abbrev pub IsRuleOrModule : (is_rule : Bool) → Source → Place → Template → Type 0
IsRuleOrModule true s p t = IsRule s p t
IsRuleOrModule false s p t = IsWholeModule s p t

pub record IsTemplate (s : Source) (p : Place) (t : Template) : Type 0 where
  pub site : t.site ≡ site_at s.modules p
  pub precedence : t.precedence ≡ precedence_at s.modules p.0
  pub imports_from : t.imports_from ≡ imports_from_at s.modules p.0
  pub rest : IsRuleOrModule (is_template (tag_at s.modules p)) s p t

-- ---- globals (11.4), keys (12.2), attribute sets (7.1.4)
pub record IsGlobal (s : Source) (p : Place) (g : Global) : Type 0 where
  pub binding : IsBinding s p g.binding
  pub param : g.param ≡ is_param (tag_at s.modules p)

abbrev pub is_key : Tag → Bool
is_key Key = true
is_key _ = false

pub record IsKey (s : Source) (p : Place) (k : KeyDecl) : Type 0 where
  pub site : k.site ≡ site_at s.modules p
  pub name : label_at s.modules p ≡ Some k.name
  pub pattern : IsPattern s.modules p (said_at s.modules p (codes "match")) k.pattern
  pub value : IsExprOf s p (codes "use") k.value

abbrev pub is_attribute : Tag → Bool
is_attribute Attribute = true
is_attribute _ = false

pub record IsInstr (s : Source) (p : Place) (i : Instr) : Type 0 where
  pub site : i.site ≡ site_at s.modules p
  pub kind : IsKind s p i.kind

pub record IsSet (s : Source) (p : Place) (a : AttrSet) : Type 0 where
  pub site : a.site ≡ site_at s.modules p
  pub precedence : a.precedence ≡ precedence_at s.modules p.0
  pub name : label_at s.modules p ≡ Some a.name
  pub sets : AreSets s p a.sets
  pub attributes : AllZip (IsInstr s) (children_with is_attribute s.modules p) a.attributes
