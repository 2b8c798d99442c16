-- The least number of the faults of a value.
use Rattle.std.proofs.Common.{◌≡◌, ◌∙◌, ℕ, ap, refl, sym, arith, List, [], ◌∷◌}
use Rattle.std.proofs.lemmas.Bool.{and_parts, eq-eqb, eqb-true, false≢true}
use Rattle.std.specs.List.{list_any}
use Rattle.std.specs.Prelude.{Bool, true, false, ◌&&◌, ◌||◌, ◌==◌, nat_le, Some, Result, Ok, Err, if◌then◌else◌}
use Rattle.xs_elements.specs.declared.forms.Form.{Form}
use Rattle.xs_elements.specs.declared.forms.Form.TheVariants.{ValueTemplate}
use Rattle.xs_elements.specs.Forms.{is_pattern, is_value_template}
use Rattle.xs_elements.specs.Values.{is_bad, is_unbound, is_unsupported}
use Rattle.xs_static.proofs.BooleanLemmas.{and-false, or-comm, or-false}
use Rattle.xs_static.proofs.LeastLemmas.{joined, one, only, same-least}
use Rattle.xs_static.specs.declared.expressions.Found.{Found}
use Rattle.xs_static.specs.Expressions.{expressions_if, expressions_of, has_parse_fault, has_unknown, is_fault, is_forbidden_in, is_parsed, trees_if}
use Rattle.xs_static.specs.Faults.{Fault, bad_syntax, unknown_function, arg_count, bad_literal, too_nested, not_pattern, unsupported, bad_attribute, unbound_prefix, unknown_variable, forbidden, number_of}
use Rattle.xs_static.specs.steps.Elements.{value_least}
use Rattle.xs_static.specs.steps.Parsing.{findings, found_nothing, found_parts, found_tree}
use Rattle.xs_static.specs.steps.Shown.{IsLeastNumber, has_in_value}
use Rattle.xs_parser.specs.declared.fault.Fault.TheVariants.{Syntax, UnknownFunction, ArgCount, BadLiteral, TooNested, NotPattern, UnboundPrefix}
use Rattle.xs_parser.specs.declared.fault.Fault.{Fault as TextFault}
use Rattle.xs_parser.specs.Faults.{outcome_in}
use Rattle.xs_parser.specs.Outcome.{number_of_fault}
use Rattle.xs_parser.specs.Templates.{template_in}
use Rattle.xs_xpath.specs.Templates.{Part}
use Rattle.xs_xpath.specs.Tree.{Tree}

-- ---- faults of a text as an expression
abbrev is_of_text : ℕ → Bool
is_of_text number = nat_le number 25 || number == 38

abbrev in_text : (ℕ → Bool) → Fault → Bool
in_text holds f = is_of_text (number_of f) && holds (number_of f)

all-and : (a b : Bool) → a ≡ true → b ≡ true → (a && b) ≡ true
all-and true b p q = q
all-and false b p q = absurd (false≢true p)

-- each fault of a text has a name here
IsNamed : ℕ → Type 0
IsNamed number = (f : Fault) × (number ≡ number_of f) × (is_of_text (number_of f) ≡ true)

named : (fault : TextFault) → IsNamed (number_of_fault fault)
unfolding IsNamed
named Syntax = (bad_syntax, refl, refl)
named (UnknownFunction at) = (unknown_function, refl, refl)
named (ArgCount at) = (arg_count, refl, refl)
named (BadLiteral at) = (bad_literal, refl, refl)
named (TooNested at) = (too_nested, refl, refl)
named (NotPattern at) = (not_pattern, refl, refl)
named (UnboundPrefix at) = (unbound_prefix, refl, refl)

text-least : (number : ℕ) → IsNamed number → IsLeastNumber (in_text (λ k. number == k)) (Some number)
unfolding IsNamed
text-least number is = (
  (is.0, all-and (is_of_text (number_of is.0)) (number == number_of is.0) is.2 (eq-eqb number (number_of is.0) is.1), is.1),
  λ f h. omega (arith, eqb-true number (number_of f) (and_parts (is_of_text (number_of f)) (number == number_of f) h).1),
)

tree-least : (form : Form) (known : List ℕ → List ℕ → Bool) (r : Result Tree TextFault)
    → IsLeastNumber (in_text (λ k. is_fault number_of_fault k r)) (found_tree number_of_fault form known r).fault
tree-least form known (Ok e) = λ f. and-false (is_of_text (number_of f))
tree-least form known (Err fault) = text-least (number_of_fault fault) (named fault)

parts-least : (known : List ℕ → List ℕ → Bool) (r : Result (List Part) TextFault)
    → IsLeastNumber (in_text (λ k. is_fault number_of_fault k r)) (found_parts number_of_fault known r).fault
parts-least known (Ok parts) = λ f. and-false (is_of_text (number_of f))
parts-least known (Err fault) = text-least (number_of_fault fault) (named fault)

-- what is found, by what a value is parsed as
module _ (form : Form) (known : List ℕ → List ℕ → Bool) (r : Result Tree TextFault) (t : Result (List Part) TextFault) where
  fault-least : (tree template : Bool)
      → IsLeastNumber (in_text (λ k. if tree then is_fault number_of_fault k r else (template && is_fault number_of_fault k t)))
      (if tree then found_tree number_of_fault form known r else if template then found_parts number_of_fault known t else found_nothing).fault
  fault-least true template = tree-least form known r
  fault-least false true = parts-least known t
  fault-least false false = λ f. and-false (is_of_text (number_of f))

  unknown-tree : (s : Result Tree TextFault) → (found_tree number_of_fault form known s).has_unknown ≡ list_any (has_unknown known) (trees_if s)
  unknown-tree (Ok e) = sym (or-false (has_unknown known e))
  unknown-tree (Err fault) = refl

  unknown-parts : (s : Result (List Part) TextFault)
      → (found_parts number_of_fault known s).has_unknown ≡ list_any (has_unknown known) (expressions_if s)
  unknown-parts (Ok parts) = refl
  unknown-parts (Err fault) = refl

  unknown-found : (tree template : Bool)
      → (if tree then found_tree number_of_fault form known r else if template then found_parts number_of_fault known t else found_nothing).has_unknown
      ≡ list_any (has_unknown known) (if tree then trees_if r else if template then expressions_if t else [])
  unknown-found true template = unknown-tree r
  unknown-found false true = unknown-parts t
  unknown-found false false = refl

  forbidden-tree : (s : Result Tree TextFault) → (found_tree number_of_fault form known s).has_forbidden ≡ list_any (is_forbidden_in form) (trees_if s)
  forbidden-tree (Ok e) = sym (or-false (is_forbidden_in form e))
  forbidden-tree (Err fault) = refl

-- nothing is forbidden in a value template
allowed : (es : List Tree) → list_any (is_forbidden_in ValueTemplate) es ≡ false
allowed [] = refl
allowed (e ∷ es) = allowed es

allowed-if : (form : Form) (es : List Tree) → is_value_template form ≡ true → false ≡ list_any (is_forbidden_in form) es
allowed-if ValueTemplate es h = sym (allowed es)
allowed-if form es h = absurd (false≢true h)

forbidden-parts : (form : Form) (known : List ℕ → List ℕ → Bool) (s : Result (List Part) TextFault) → is_value_template form ≡ true
    → (found_parts number_of_fault known s).has_forbidden ≡ list_any (is_forbidden_in form) (expressions_if s)
forbidden-parts form known (Ok parts) h = allowed-if form (expressions_if {F = TextFault} (Ok parts)) h
forbidden-parts form known (Err fault) h = refl

forbidden-found : (form : Form) (known : List ℕ → List ℕ → Bool) (r : Result Tree TextFault) (t : Result (List Part) TextFault)
    (tree template : Bool) → is_value_template form ≡ template
    → (if tree then found_tree number_of_fault form known r else if template then found_parts number_of_fault known t else found_nothing).has_forbidden
    ≡ list_any (is_forbidden_in form) (if tree then trees_if r else if template then expressions_if t else [])
forbidden-found form known r t true template h = forbidden-tree form known r t r
forbidden-found form known r t false true h = forbidden-parts form known t h
forbidden-found form known r t false false h = refl

-- ---- all faults of a value
module _ (form : Form) (pairs : List (List ℕ × List ℕ)) (value : List ℕ) (known : List ℕ → List ℕ → Bool) where
  abbrev in_parse : Fault → Bool
  in_parse = in_text (λ k. has_parse_fault k form pairs value)

  abbrev in_prefixes : Fault → Bool
  in_prefixes f = only bad_attribute (is_bad form value) f || only unbound_prefix (is_unbound form pairs value) f

  abbrev in_plain : Fault → Bool
  in_plain f = only unsupported (is_unsupported form value) f || in_prefixes f

  abbrev in_names : (unknown forbids : Bool) → Fault → Bool
  in_names unknown forbids f = only unknown_variable unknown f || only forbidden forbids f

  abbrev in_all : (unknown forbids : Bool) → Fault → Bool
  in_all unknown forbids f = in_parse f || (in_plain f || in_names unknown forbids f)

  abbrev unknown : Bool
  unknown = list_any (has_unknown known) (expressions_of form pairs value)

  abbrev forbids : Bool
  forbids = list_any (is_forbidden_in form) (expressions_of form pairs value)

  once : (b : Bool) → b ≡ ((b || false) || false)
  once b = sym (or-false (b || false) ∙ or-false b)

  shown : (f : Fault) → has_in_value form pairs value known f ≡ in_all unknown forbids f
  shown bad_syntax = sym (or-false (has_parse_fault 20 form pairs value))
  shown unknown_function = sym (or-false (has_parse_fault 21 form pairs value))
  shown arg_count = sym (or-false (has_parse_fault 22 form pairs value))
  shown bad_literal = sym (or-false (has_parse_fault 23 form pairs value))
  shown too_nested = sym (or-false (has_parse_fault 24 form pairs value))
  shown not_pattern = sym (or-false (has_parse_fault 25 form pairs value))
  shown unsupported = once (is_unsupported form value)
  shown bad_attribute = once (is_bad form value)
  shown unbound_prefix =
      or-comm (is_unbound form pairs value) (has_parse_fault 38 form pairs value)
      ∙ ap (λ b. has_parse_fault 38 form pairs value || b) (sym (or-false (is_unbound form pairs value)))
  shown unknown_variable = sym (or-false unknown)
  shown f = refl

  abbrev found : Found
  found = findings form pairs value known

  parsed : IsLeastNumber in_parse found.fault
  parsed = fault-least form known (outcome_in (is_pattern form) pairs value) (template_in pairs value) (is_parsed form) (is_value_template form)

  same-unknown : found.has_unknown ≡ unknown
  same-unknown = unknown-found form known (outcome_in (is_pattern form) pairs value) (template_in pairs value) (is_parsed form) (is_value_template form)

  same-forbidden : found.has_forbidden ≡ forbids
  same-forbidden =
      forbidden-found form known (outcome_in (is_pattern form) pairs value) (template_in pairs value) (is_parsed form) (is_value_template form) refl

  all-least : IsLeastNumber (in_all found.has_unknown found.has_forbidden) (value_least form pairs value known)
  all-least =
      joined (in_all found.has_unknown found.has_forbidden) in_parse (λ f. in_plain f || in_names found.has_unknown found.has_forbidden f)
      (λ f. refl) _ _ parsed
      (joined (λ f. in_plain f || in_names found.has_unknown found.has_forbidden f) in_plain (in_names found.has_unknown found.has_forbidden) (λ f. refl) _ _
      (joined in_plain (only unsupported (is_unsupported form value)) in_prefixes (λ f. refl) _ _ (one unsupported (is_unsupported form value))
      (joined in_prefixes (only bad_attribute (is_bad form value)) (only unbound_prefix (is_unbound form pairs value)) (λ f. refl) _ _
      (one bad_attribute (is_bad form value)) (one unbound_prefix (is_unbound form pairs value))))
      (joined (in_names found.has_unknown found.has_forbidden) (only unknown_variable found.has_unknown) (only forbidden found.has_forbidden) (λ f. refl) _ _
      (one unknown_variable found.has_unknown) (one forbidden found.has_forbidden)))

  pub value_is_least : IsLeastNumber (has_in_value form pairs value known) (value_least form pairs value known)
  value_is_least =
      same-least (in_all found.has_unknown found.has_forbidden) (has_in_value form pairs value known)
      (λ f. shown f ∙ ap (λ b. in_all b forbids f) (sym same-unknown) ∙ ap (λ b. in_all found.has_unknown b f) (sym same-forbidden))
      (value_least form pairs value known) all-least
