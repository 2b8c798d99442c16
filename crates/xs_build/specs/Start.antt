-- The start tag of an element: a line that starts it, and the attribute lines that follow.
use Rattle.std.specs.Prelude.{ℕ, List, [], ◌∷◌, Bool, false, ◌==◌, Option, None, Some, if◌then◌else◌, take_while, option_and_then}
use Rattle.std.specs.List.{filter_map, flat_map}
use Rattle.xs_pyx.specs.Row.{Row}
use Rattle.xs_pyx.specs.Reading.{Reading, says, faulty, reading}
use Rattle.xs_pyx.specs.declared.line.Line.{Line}
use Rattle.xs_pyx.specs.declared.line.Line.TheVariants.{Attr, Chars}
use Rattle.xs_build.specs.Namespaces.{Binding, qname_of, declared_prefix, is_bad_binding}

abbrev pub begins_with : ℕ → List ℕ → Bool
begins_with kind [] = false
begins_with kind (b ∷ bytes) = b == kind

-- a line whose first byte is `A`, whatever else stands on it
abbrev pub is_attribute_row : Row → Bool
is_attribute_row row = begins_with 65 row.bytes

-- a line whose first byte is `-`
abbrev pub is_text_row : Row → Bool
is_text_row row = begins_with 45 row.bytes

-- the binding of a prefix to a URI, if the two may be bound
abbrev pub bound_to : List ℕ → List ℕ → Option Binding
bound_to uri prefix = if is_bad_binding prefix uri then None else Some (prefix, uri)

-- the binding that an attribute of this name and value declares, if it declares one
unfoldable pub binding_of : List ℕ → List ℕ → Option Binding
binding_of name value = option_and_then (bound_to value) (option_and_then declared_prefix (qname_of name))

abbrev pub line_binding : Line → Option Binding
line_binding (Attr name value) = binding_of name value
line_binding line = None

abbrev pub reading_binding : Reading → Option Binding
reading_binding (says line) = line_binding line
reading_binding (faulty number) = None

-- What the attribute lines at the head of these lines declare, in their order. A line that has one of the faults 1 to 4, 7 and 10
-- declares nothing; of two declarations of one prefix `scope_with` takes the first.
unfoldable pub declarations : List Row → List Binding
declarations rows = filter_map (λ row. reading_binding (reading row)) (take_while is_attribute_row rows)

abbrev pub reading_text : Reading → List ℕ
reading_text (says (Chars text)) = text
reading_text other = []

-- the text of the text lines at the head of these lines, which are one text node (XPath 1.0, 5.7)
unfoldable pub text_ahead : List Row → List ℕ
text_ahead rows = flat_map (λ row. reading_text (reading row)) (take_while is_text_row rows)
