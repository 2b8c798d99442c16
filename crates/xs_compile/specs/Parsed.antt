-- What the values of attributes represent, in the scope of their element and with their variables bound.
use Rattle.std.specs.Prelude.{◌≡◌, ℕ, List, map, Option, Some, None, option_map}
use Rattle.std.specs.Result.{result_ok}
use Rattle.xs_modules.specs.Numbering.{ModuleData}
use Rattle.xs_sheet.specs.declared.scoped.ScopedExpr.{ScopedExpr}
use Rattle.xs_sheet.specs.declared.scoped.ScopedPattern.{ScopedPattern}
use Rattle.xs_sheet.specs.declared.scoped.ValueTemplate.{ValueTemplate}
use Rattle.xs_structure.specs.Modules.{Place}
use Rattle.xs_parser.specs.Faults.{expr_in, pattern_in}
use Rattle.xs_parser.specs.Templates.{template_in}
use Rattle.xs_xpath.specs.declared.name.Slot.{Slot}
use Rattle.xs_xpath.specs.declared.scope.Scope.{Scope}
use Rattle.xs_xpath.specs.Binding.{bound}
use Rattle.xs_xpath.specs.Patterns.{alternatives}
use Rattle.xs_xpath.specs.Templates.{Part, text, computed}
use Rattle.xs_structure.specs.Parts.{pairs_at}
use Rattle.xs_compile.specs.Slots.{slot_at}

abbrev pub IsScope : List ModuleData → Place → Scope → Type 0
IsScope ms p scope = scope.pairs.items ≡ pairs_at ms p

-- an expression (XSLT 1.0, 4)
pub record IsExpr (ms : List ModuleData) (p : Place) (value : List ℕ) (e : ScopedExpr) : Type 0 where
  pub scope : e.scope ≡ pairs_at ms p
  pub expr : option_map (bound (slot_at ms p)) (result_ok (expr_in (pairs_at ms p) value)) ≡ Some e.expr

-- a pattern (5.2), which has no variables
pub record IsPattern (ms : List ModuleData) (p : Place) (value : List ℕ) (e : ScopedPattern) : Type 0 where
  pub scope : e.scope ≡ pairs_at ms p
  pub pattern : option_map alternatives (result_ok (pattern_in (pairs_at ms p) value)) ≡ Some e.pattern

-- a value template (7.6.2)
abbrev pub bound_part : (List ℕ → List ℕ → Option Slot) → Part → Part
bound_part slots (text bytes) = text bytes
bound_part slots (computed e) = computed (bound slots e)

pub record IsValueTemplate (ms : List ModuleData) (p : Place) (value : List ℕ) (v : ValueTemplate) : Type 0 where
  pub scope : v.scope ≡ pairs_at ms p
  pub parts : option_map (map (bound_part (slot_at ms p))) (result_ok (template_in (pairs_at ms p) value)) ≡ Some v.parts

-- what may be missing is there where its attribute is
abbrev pub Both : {A B : Type 0} → (A → B → Type 0) → Option A → Option B → Type 0
Both R None None = Unit {0}
Both R None (Some b) = ⊥
Both R (Some a) None = ⊥
Both R (Some a) (Some b) = R a b
