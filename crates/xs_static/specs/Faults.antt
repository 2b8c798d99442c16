-- The static faults of a stylesheet: a set of triples of a module, a line and a number.
use Rattle.std.specs.Prelude.{◌≡◌, ℕ, ◌<◌, ◌==◌, ◌&&◌, ◌||◌, not, nat_lt, nat_le, Bool, true, false, List, length, Option, Some, None, codes}
use Rattle.std.specs.List.{list_any}
use Rattle.std.specs.Option.{option_map_or}
use Rattle.xs_modules.specs.Numbering.{ModuleData}
use Rattle.xs_static.specs.declared.fault.StaticFault.{StaticFault}
use Rattle.xs_elements.specs.declared.forms.Form.{Form}
use Rattle.xs_elements.specs.Attributes.{Allowed, attributes_of}
use Rattle.xs_static.specs.Names.{is_known, is_double, calls_unknown}
use Rattle.xs_structure.specs.Bindings.{shadows}
use Rattle.xs_static.specs.Expressions.{has_parse_fault, expressions_of, has_unknown, is_forbidden_in}
use Rattle.xs_structure.specs.Modules.{Place, records_at, line_at}
use Rattle.xs_elements.specs.Nodes.{ancestors_or_self, has, scope_at}
use Rattle.xs_static.specs.Placing.{is_misplaced}
use Rattle.xs_elements.specs.Reading.{form_of, has_read_attributes, has_version, is_seen}
use Rattle.xs_elements.specs.Tags.{tag_of, is_variable, is_template, is_decimal_format, is_document_element}
use Rattle.xs_static.specs.Sets.{IsCircular}
use Rattle.xs_elements.specs.Values.{is_bad, is_unbound, is_unsupported}
use Rattle.xs_tree.specs.Kinds.{is_element_kind}
use Rattle.xs_tree.specs.Record.{Record, at, attributes}

-- the faults by their names
pub data Fault : Type 0 where
  bad_syntax : Fault
  unknown_function : Fault
  arg_count : Fault
  bad_literal : Fault
  too_nested : Fault
  not_pattern : Fault
  bad_root : Fault
  unsupported : Fault
  missing_attribute : Fault
  unknown_attribute : Fault
  bad_attribute : Fault
  misplaced : Fault
  unbound_prefix : Fault
  unknown_variable : Fault
  shadowing : Fault
  double_global : Fault
  double_template : Fault
  unknown_template : Fault
  circular_set : Fault
  forbidden : Fault
  module_too_deep : Fault

abbrev pub number_of : Fault → ℕ
number_of bad_syntax = 20
number_of unknown_function = 21
number_of arg_count = 22
number_of bad_literal = 23
number_of too_nested = 24
number_of not_pattern = 25
number_of bad_root = 32
number_of unsupported = 33
number_of missing_attribute = 34
number_of unknown_attribute = 35
number_of bad_attribute = 36
number_of misplaced = 37
number_of unbound_prefix = 38
number_of unknown_variable = 39
number_of shadowing = 40
number_of double_global = 41
number_of double_template = 42
number_of unknown_template = 43
number_of circular_set = 44
number_of forbidden = 45
number_of module_too_deep = 46

-- ---- of attributes: some attribute that is read has a value, of the form that it has to have, with this property
abbrev pub of_form : List Record → ℕ → (Form → List ℕ → Bool) → ℕ → Bool
of_form rs n property a = option_map_or (λ form. property form (at rs a).text) (form_of rs n a) false

abbrev pub some_value : List Record → ℕ → (Form → List ℕ → Bool) → Bool
some_value rs n property = has_read_attributes rs n && list_any (of_form rs n property) (attributes rs n)

-- 20 to 25: an expression, a pattern or a value template has this fault (XPath 1.0, 3; XSLT 1.0, 5.2 and 7.6.2)
abbrev pub is_misspelled : ℕ → List Record → ℕ → Bool
is_misspelled number rs n = some_value rs n (λ form value. has_parse_fault number form (scope_at rs n) value)

-- 32: the document's element is neither `xsl:stylesheet` with a version nor a literal element with one (XSLT 1.0, 2.2 and 2.3)
abbrev pub is_bad_root : List Record → ℕ → Bool
is_bad_root rs n = is_document_element rs n && not (has_version rs n)

-- 33: another version than 1.0, or `xsl:decimal-format`, which this project does not have
abbrev pub is_unsupported_at : List Record → ℕ → Bool
is_unsupported_at rs n = some_value rs n is_unsupported || is_decimal_format (tag_of rs n)

-- 34: an attribute is missing; a template has to have `match` or `name` (XSLT 1.0, 5.3)
abbrev pub is_missing : List Record → ℕ → Allowed → Bool
is_missing rs n a = a.is_required && not (has rs n a.name)

abbrev pub lacks_both : List Record → ℕ → Bool
lacks_both rs n = is_template (tag_of rs n) && not (has rs n (codes "match")) && not (has rs n (codes "name"))

abbrev pub lacks_some : List Record → ℕ → Bool
lacks_some rs n = list_any (is_missing rs n) (attributes_of (tag_of rs n)) || lacks_both rs n

abbrev pub lacks_attribute : List Record → ℕ → Bool
lacks_attribute rs n = has_read_attributes rs n && lacks_some rs n

-- 35: an attribute that the element does not have
abbrev pub has_unknown_attribute : List Record → ℕ → Bool
has_unknown_attribute rs n = has_read_attributes rs n && list_any (λ a. option_map_or (λ form. false) (form_of rs n a) true) (attributes rs n)

-- 36: a value that is not as it has to be
abbrev pub has_bad_value : List Record → ℕ → Bool
has_bad_value rs n = some_value rs n is_bad

-- 38: a prefix that is not in scope
abbrev pub has_unbound_prefix : List Record → ℕ → Bool
has_unbound_prefix rs n =
    some_value rs n (λ form value. is_unbound form (scope_at rs n) value) || is_misspelled (number_of unbound_prefix) rs n

-- 39: a variable without a visible binding (XSLT 1.0, 11.5)
abbrev pub has_unknown_variable : List ModuleData → Place → Bool
has_unknown_variable ms p = some_value (records_at ms p.0) p.1 (λ form value.
    list_any (has_unknown (is_known ms form p)) (expressions_of form (scope_at (records_at ms p.0) p.1) value))

-- 45: a variable, `current()` or `key()` where none may stand
abbrev pub holds_forbidden : List Record → ℕ → Bool
holds_forbidden rs n = some_value rs n (λ form value. list_any (is_forbidden_in form) (expressions_of form (scope_at rs n) value))

-- 46: an element that stands in 256 others; the root is around it besides
abbrev pub is_too_deep : List Record → ℕ → Bool
is_too_deep rs n = length (ancestors_or_self rs n) == 258

-- ---- of one element, which is looked at
abbrev pub shows : Fault → List ModuleData → Place → Bool
shows bad_syntax ms p = is_misspelled (number_of bad_syntax) (records_at ms p.0) p.1
shows unknown_function ms p = is_misspelled (number_of unknown_function) (records_at ms p.0) p.1
shows arg_count ms p = is_misspelled (number_of arg_count) (records_at ms p.0) p.1
shows bad_literal ms p = is_misspelled (number_of bad_literal) (records_at ms p.0) p.1
shows too_nested ms p = is_misspelled (number_of too_nested) (records_at ms p.0) p.1
shows not_pattern ms p = is_misspelled (number_of not_pattern) (records_at ms p.0) p.1
shows bad_root ms p = is_bad_root (records_at ms p.0) p.1
shows unsupported ms p = is_unsupported_at (records_at ms p.0) p.1
shows missing_attribute ms p = lacks_attribute (records_at ms p.0) p.1
shows unknown_attribute ms p = has_unknown_attribute (records_at ms p.0) p.1
shows bad_attribute ms p = has_bad_value (records_at ms p.0) p.1
shows misplaced ms p = is_misplaced (records_at ms p.0) p.1
shows unbound_prefix ms p = has_unbound_prefix (records_at ms p.0) p.1
shows unknown_variable ms p = has_unknown_variable ms p
shows shadowing ms p = shadows (records_at ms p.0) p.1
-- 41, 42: a name twice at one precedence, at the later (XSLT 1.0, 11.4 and 6)
shows double_global ms p = is_double is_variable ms p
shows double_template ms p = is_double is_template ms p
-- 43
shows unknown_template ms p = calls_unknown ms p
-- 44 is said below
shows circular_set ms p = false
shows forbidden ms p = holds_forbidden (records_at ms p.0) p.1
shows module_too_deep ms p = false

-- the depth is asked of every element, all else of those that are looked at
abbrev pub has_fault : Fault → List ModuleData → Place → Bool
has_fault module_too_deep ms p = is_too_deep (records_at ms p.0) p.1
has_fault fault ms p = is_seen (records_at ms p.0) p.1 && shows fault ms p

-- and an attribute set may use itself
abbrev pub Holds : Fault → List ModuleData → Place → Type 0
Holds circular_set ms p = IsCircular ms p
Holds fault ms p = has_fault fault ms p ≡ true

-- ---- the set
-- an element of a module has a fault, at the line where the element begins
pub record IsStaticFault (ms : List ModuleData) (f : StaticFault) : Type 0 where
  pub fault : Fault
  pub number : f.number ≡ number_of fault
  pub node : ℕ
  pub known_module : f.«module» < length ms
  pub known_node : node < length (records_at ms f.«module»)
  pub element : is_element_kind (at (records_at ms f.«module») node).kind ≡ true
  pub line : f.line ≡ line_at ms f.«module» node
  pub holds : Holds fault ms (f.«module», node)

-- the order of triples: by the module, the line, the number
abbrev pub is_at_most : StaticFault → StaticFault → Bool
is_at_most f g =
    nat_lt f.«module» g.«module»
    || (f.«module» == g.«module» && (nat_lt f.line g.line || (f.line == g.line && nat_le f.number g.number)))

-- none where there is no such fault, and else the least one
abbrev pub IsLeastOf : (StaticFault → Type 0) → Option StaticFault → Type 0
IsLeastOf P None = (f : StaticFault) → P f → ⊥
IsLeastOf P (Some f) = P f × ((g : StaticFault) → P g → is_at_most f g ≡ true)

abbrev pub IsFirstFault : List ModuleData → Option StaticFault → Type 0
IsFirstFault ms = IsLeastOf (IsStaticFault ms)
