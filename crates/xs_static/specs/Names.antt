-- The names of global variables and of templates.
use Rattle.std.specs.Prelude.{ℕ, ◌==◌, ◌&&◌, ◌||◌, not, Bool, false, List, [], ◌∷◌}
use Rattle.std.specs.List.{list_any}
use Rattle.std.specs.Option.{option_map_or}
use Rattle.xs_modules.specs.Numbering.{ModuleData}
use Rattle.xs_elements.specs.declared.tags.Tag.{Tag}
use Rattle.xs_structure.specs.Modules.{Place, records_at, precedence_at, is_same_place}
use Rattle.xs_structure.specs.Bindings.{has_binding}
use Rattle.xs_structure.specs.Order.{declarations, declares}
use Rattle.xs_elements.specs.declared.forms.Form.{Form}
use Rattle.xs_elements.specs.Forms.{sees_locals}
use Rattle.xs_elements.specs.Nodes.{Name, own_name}
use Rattle.xs_elements.specs.Tags.{tag_of, is_variable, is_template, is_call_template}

-- whether a declaration, anywhere in the stylesheet, is of this kind and has this name
abbrev pub is_declared : (Tag → Bool) → List ModuleData → Name → Bool
is_declared kind ms name = list_any (declares kind ms name) (declarations ms)

-- a global variable or parameter of this name (XSLT 1.0, 11.4), and a template (6)
abbrev pub is_global : List ModuleData → Name → Bool
is_global = is_declared is_variable

abbrev pub is_template_name : List ModuleData → Name → Bool
is_template_name = is_declared is_template

-- a declaration of this kind and name, at the import precedence of the element at p
abbrev pub declares_again : (Tag → Bool) → List ModuleData → Place → Name → Place → Bool
declares_again kind ms p name q = declares kind ms name q && precedence_at ms q.0 == precedence_at ms p.0

-- the element at p stands behind one that passes a test
unfoldable pub stands_behind : (Place → Bool) → Place → List Place → Bool
stands_behind test p [] = false
stands_behind test p (q ∷ qs) = (test q && list_any (is_same_place p) qs) || stands_behind test p qs

-- An element of the top level of this kind has the name of one that stands before it in the stylesheet, at the same import precedence.
abbrev pub is_double : (Tag → Bool) → List ModuleData → Place → Bool
is_double kind ms p =
    kind (tag_of (records_at ms p.0) p.1)
    && option_map_or (λ name. stands_behind (declares_again kind ms p name) p (declarations ms)) (own_name (records_at ms p.0) p.1) false

-- a template is called that the stylesheet does not have (XSLT 1.0, 6)
abbrev pub calls_unknown : List ModuleData → Place → Bool
calls_unknown ms p =
    is_call_template (tag_of (records_at ms p.0) p.1)
    && option_map_or (λ name. not (is_template_name ms name)) (own_name (records_at ms p.0) p.1) false

-- the variables that are known to a value of this form: the global ones, and local ones where it sees those
abbrev pub is_known : List ModuleData → Form → Place → List ℕ → List ℕ → Bool
is_known ms form p uri local = is_global ms (uri, local) || (sees_locals form && has_binding (records_at ms p.0) p.1 (uri, local))
