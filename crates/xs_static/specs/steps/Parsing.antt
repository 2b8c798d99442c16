-- What is found in a value that is an expression, a pattern or a value template.
use Rattle.std.specs.Prelude.{◌≡◌, ℕ, Bool, false, List, Some, None, if◌then◌else◌, Result, Ok, Err}
use Rattle.std.specs.List.{list_any}
use Rattle.xs_static.specs.declared.expressions.Found.{Found}
use Rattle.xs_elements.specs.declared.forms.Form.{Form}
use Rattle.xs_static.specs.Expressions.{expressions, has_unknown, is_forbidden_in, is_parsed}
use Rattle.xs_elements.specs.Forms.{is_pattern, is_value_template}
use Rattle.xs_parser.specs.declared.fault.ParseFault.{ParseFault}
use Rattle.xs_parser.specs.declared.fault.ParseFault.TheVariants.{Bad, NoMemory}
use Rattle.xs_parser.specs.Faults.{outcome_in}
use Rattle.xs_parser.specs.Outcome.{number_of_fault}
use Rattle.xs_parser.specs.Templates.{template_in}
use Rattle.xs_xpath.specs.Templates.{Part}
use Rattle.xs_xpath.specs.Tree.{Tree}

abbrev pub found_fault : ℕ → Found
found_fault number = record { fault = Some number; has_unknown = false; has_forbidden = false }

abbrev pub found_nothing : Found
found_nothing = record { fault = None; has_unknown = false; has_forbidden = false }

-- in the outcome of an expression or a pattern
abbrev pub found_tree : {F : Type 0} → (F → ℕ) → Form → (List ℕ → List ℕ → Bool) → Result Tree F → Found
found_tree to_number form known (Ok e) = record { fault = None; has_unknown = has_unknown known e; has_forbidden = is_forbidden_in form e }
found_tree to_number form known (Err fault) = found_fault (to_number fault)

-- in the outcome of a value template
abbrev pub found_parts : {F : Type 0} → (F → ℕ) → (List ℕ → List ℕ → Bool) → Result (List Part) F → Found
found_parts to_number known (Ok parts) = record { fault = None; has_unknown = list_any (has_unknown known) (expressions parts); has_forbidden = false }
found_parts to_number known (Err fault) = found_fault (to_number fault)

-- what is found in a text with a fault, where memory suffices
abbrev pub IsFoundFault : ParseFault → Found → Type 0
IsFoundFault (Bad number at) found = found ≡ found_fault number
IsFoundFault NoMemory found = ⊥

abbrev pub findings : Form → List (List ℕ × List ℕ) → List ℕ → (List ℕ → List ℕ → Bool) → Found
findings form pairs value known =
    if is_parsed form then found_tree number_of_fault form known (outcome_in (is_pattern form) pairs value)
    else if is_value_template form then found_parts number_of_fault known (template_in pairs value)
    else found_nothing
