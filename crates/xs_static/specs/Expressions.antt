-- Values of attributes that are expressions, patterns or value templates.
use Rattle.std.specs.Prelude.{ℕ, ◌==◌, ◌&&◌, ◌||◌, not, Bool, false, List, [], ◌∷◌, Result, Ok, Err, if◌then◌else◌}
use Rattle.xs_elements.specs.declared.forms.Form.{Form}
use Rattle.xs_elements.specs.Forms.{is_expression, is_pattern, is_value_template, forbids_variables, forbids_current, forbids_key}
use Rattle.xs_parser.specs.Faults.{outcome_in}
use Rattle.xs_parser.specs.Outcome.{number_of_fault}
use Rattle.xs_parser.specs.Templates.{template_in}
use Rattle.xs_xpath.specs.Templates.{Part, text, computed}
use Rattle.xs_xpath.specs.Tree.{Tree, Trees, number, literal, variable, call, negative, chain, group, here, root, step, descend, filter, path, no_trees, first_tree}
use Rattle.xs_xpath.specs.Uses.{uses_variables, uses_current, uses_key}

-- an outcome is the fault of this number
abbrev pub is_fault : {A F : Type 0} → (F → ℕ) → ℕ → Result A F → Bool
is_fault to_number which (Ok value) = false
is_fault to_number which (Err fault) = to_number fault == which

-- the expressions of a value template
abbrev pub expressions : List Part → List Tree
expressions [] = []
expressions (text bytes ∷ parts) = expressions parts
expressions (computed e ∷ parts) = e ∷ expressions parts

abbrev pub trees_if : {F : Type 0} → Result Tree F → List Tree
trees_if (Ok e) = e ∷ []
trees_if (Err fault) = []

abbrev pub expressions_if : {F : Type 0} → Result (List Part) F → List Tree
expressions_if (Ok parts) = expressions parts
expressions_if (Err fault) = []

abbrev pub is_parsed : Form → Bool
is_parsed form = is_expression form || is_pattern form

-- A value has the fault of this number as an expression, a pattern or a value template in a scope: of its faults the least by
-- number counts (XPath 1.0, 3; XSLT 1.0, 5.2 and 7.6.2).
abbrev pub has_parse_fault : ℕ → Form → List (List ℕ × List ℕ) → List ℕ → Bool
has_parse_fault which form pairs value =
    if is_parsed form then is_fault number_of_fault which (outcome_in (is_pattern form) pairs value)
    else is_value_template form && is_fault number_of_fault which (template_in pairs value)

-- the expressions that a value without a fault holds
abbrev pub expressions_of : Form → List (List ℕ × List ℕ) → List ℕ → List Tree
expressions_of form pairs value =
    if is_parsed form then trees_if (outcome_in (is_pattern form) pairs value)
    else if is_value_template form then expressions_if (template_in pairs value)
    else []

-- Whether an expression has a variable that is not among these, which are known by the URI and the local part of their names.
abbrev mutual
  pub has_unknown : (List ℕ → List ℕ → Bool) → Tree → Bool
  has_unknown known (number n) = false
  has_unknown known (literal bytes) = false
  has_unknown known (variable uri local slot) = not (known uri local)
  has_unknown known (call function es) = any_unknown known es
  has_unknown known (negative m e) = has_unknown known e
  has_unknown known (chain ops es) = any_unknown known es
  has_unknown known (group e) = has_unknown known e
  has_unknown known here = false
  has_unknown known root = false
  has_unknown known (step axis which es) = any_unknown known es
  has_unknown known descend = false
  has_unknown known (filter e es) = has_unknown known e || any_unknown known es
  has_unknown known (path e es) = has_unknown known e || any_unknown known es

  pub any_unknown : (List ℕ → List ℕ → Bool) → Trees → Bool
  any_unknown known no_trees = false
  any_unknown known (first_tree e es) = has_unknown known e || any_unknown known es

-- an expression holds what may not stand in a value of this form
abbrev pub is_forbidden_in : Form → Tree → Bool
is_forbidden_in form e =
    (forbids_variables form && uses_variables e) || (forbids_current form && uses_current e) || (forbids_key form && uses_key e)
