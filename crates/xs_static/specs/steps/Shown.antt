-- What one element has, by the names of faults.
use Rattle.std.specs.Prelude.{◌≡◌, ◌≤◌, ℕ, ◌||◌, Bool, true, false, List, Option, Some, None}
use Rattle.std.specs.List.{list_any}
use Rattle.xs_elements.specs.declared.forms.Form.{Form}
use Rattle.xs_elements.specs.Nodes.{scope_at}
use Rattle.xs_elements.specs.Tags.{is_decimal_format, tag_of}
use Rattle.xs_elements.specs.Values.{is_bad, is_unbound, is_unsupported}
use Rattle.xs_static.specs.Expressions.{expressions_of, has_parse_fault, has_unknown, is_forbidden_in}
use Rattle.xs_static.specs.Faults.{Fault, bad_syntax, unknown_function, arg_count, bad_literal, too_nested, not_pattern, bad_root, unsupported, missing_attribute, unknown_attribute, bad_attribute, unbound_prefix, unknown_variable, forbidden, number_of, has_bad_value, has_unbound_prefix, has_unknown_attribute, holds_forbidden, is_bad_root, is_misspelled, lacks_attribute, some_value}
use Rattle.xs_tree.specs.Record.{Record}

-- ---- by itself
abbrev pub has_own : List Record → ℕ → Fault → Bool
has_own rs n bad_root = is_bad_root rs n
has_own rs n unsupported = is_decimal_format (tag_of rs n)
has_own rs n _ = false

-- ---- in a value of this form, where these variables are known
abbrev pub has_in_value : Form → List (List ℕ × List ℕ) → List ℕ → (List ℕ → List ℕ → Bool) → Fault → Bool
has_in_value form pairs value known bad_syntax = has_parse_fault 20 form pairs value
has_in_value form pairs value known unknown_function = has_parse_fault 21 form pairs value
has_in_value form pairs value known arg_count = has_parse_fault 22 form pairs value
has_in_value form pairs value known bad_literal = has_parse_fault 23 form pairs value
has_in_value form pairs value known too_nested = has_parse_fault 24 form pairs value
has_in_value form pairs value known not_pattern = has_parse_fault 25 form pairs value
has_in_value form pairs value known unsupported = is_unsupported form value
has_in_value form pairs value known bad_attribute = is_bad form value
has_in_value form pairs value known unbound_prefix = is_unbound form pairs value || has_parse_fault 38 form pairs value
has_in_value form pairs value known unknown_variable = list_any (has_unknown known) (expressions_of form pairs value)
has_in_value form pairs value known forbidden = list_any (is_forbidden_in form) (expressions_of form pairs value)
has_in_value form pairs value known _ = false

-- ---- in its attributes, where these variables are known to values of each form
abbrev pub has_in_attributes : List Record → ℕ → (Form → List ℕ → List ℕ → Bool) → Fault → Bool
has_in_attributes rs n known bad_syntax = is_misspelled 20 rs n
has_in_attributes rs n known unknown_function = is_misspelled 21 rs n
has_in_attributes rs n known arg_count = is_misspelled 22 rs n
has_in_attributes rs n known bad_literal = is_misspelled 23 rs n
has_in_attributes rs n known too_nested = is_misspelled 24 rs n
has_in_attributes rs n known not_pattern = is_misspelled 25 rs n
has_in_attributes rs n known unsupported = some_value rs n is_unsupported
has_in_attributes rs n known missing_attribute = lacks_attribute rs n
has_in_attributes rs n known unknown_attribute = has_unknown_attribute rs n
has_in_attributes rs n known bad_attribute = has_bad_value rs n
has_in_attributes rs n known unbound_prefix = has_unbound_prefix rs n
has_in_attributes rs n known unknown_variable =
    some_value rs n (λ form value. list_any (has_unknown (known form)) (expressions_of form (scope_at rs n) value))
has_in_attributes rs n known forbidden = holds_forbidden rs n
has_in_attributes rs n known _ = false

-- ---- the least number of the faults with a property, none where there is none
abbrev pub IsLeastNumber : (Fault → Bool) → Option ℕ → Type 0
IsLeastNumber holds None = (f : Fault) → holds f ≡ false
IsLeastNumber holds (Some k) = ((f : Fault) × (holds f ≡ true) × (k ≡ number_of f)) × ((f : Fault) → holds f ≡ true → k ≤ number_of f)
