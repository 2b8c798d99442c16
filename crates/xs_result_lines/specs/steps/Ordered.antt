-- A start tag whose namespace nodes come before its attributes, in the order of their prefixes.
use Rattle.std.specs.Prelude.{ℕ, List, [], ◌∷◌, Bool, true, false, ◌&&◌, if◌then◌else◌, not}
use Rattle.std.specs.Ordering.{is_lt}
use Rattle.std.specs.Str.{bytes_eq}
use Rattle.xs_result.specs.Built.{is_empty}
use Rattle.xs_trace.specs.Label.{Label}
use Rattle.xs_trace.specs.declared.event.Event.{Event}
use Rattle.xs_trace.specs.declared.event.Event.TheVariants.{Start, Space, Attr, Chars, End, Comment, Pi}
use Rattle.xs_result_lines.specs.Bindings.{needs_prefix, order_of_prefixes}

-- an event that may come after the namespace node of a prefix
abbrev pub is_after : List ℕ → Event → Bool
is_after prefix (Space other uri) = is_lt (order_of_prefixes prefix other)
is_after prefix (Attr name value) = true
is_after prefix (Start name) = false
is_after prefix (Chars text) = false
is_after prefix End = false
is_after prefix (Comment text) = false
is_after prefix (Pi target value) = false

-- after an attribute come attributes alone
abbrev pub is_attribute : Event → Bool
is_attribute (Attr name value) = true
is_attribute (Space prefix uri) = false
is_attribute (Start name) = false
is_attribute (Chars text) = false
is_attribute End = false
is_attribute (Comment text) = false
is_attribute (Pi target value) = false

abbrev pub follows : List ℕ → List Event → Bool
follows prefix [] = true
follows prefix (e ∷ es) = is_after prefix e

abbrev pub begins_with_attribute : List Event → Bool
begins_with_attribute [] = true
begins_with_attribute (e ∷ es) = is_attribute e

-- an event, and those after it
abbrev pub goes_on : Event → List Event → Bool
goes_on (Space prefix uri) es = follows prefix es
goes_on (Attr name value) es = begins_with_attribute es
goes_on (Start name) es = false
goes_on (Chars text) es = false
goes_on End es = false
goes_on (Comment text) es = false
goes_on (Pi target value) es = false

unfoldable pub are_ordered : List Event → Bool
are_ordered [] = true
are_ordered (e ∷ es) = goes_on e es && are_ordered es

-- the namespace node of a binding
abbrev pub is_space_of : List ℕ → List ℕ → Event → Bool
is_space_of prefix uri (Space other bound) = bytes_eq other prefix && bytes_eq bound uri
is_space_of prefix uri (Attr name value) = false
is_space_of prefix uri (Start name) = false
is_space_of prefix uri (Chars text) = false
is_space_of prefix uri End = false
is_space_of prefix uri (Comment text) = false
is_space_of prefix uri (Pi target value) = false

unfoldable pub has_space : List ℕ → List ℕ → List Event → Bool
has_space prefix uri [] = false
has_space prefix uri (e ∷ es) = if is_space_of prefix uri e then true else has_space prefix uri es

-- an attribute keeps its prefix where it needs none, or has one that a namespace node among these events binds to its URI
abbrev pub keeps_among : List Event → Label → Bool
keeps_among all name = if needs_prefix name then not (is_empty name.prefix) && has_space name.prefix name.uri all else true

-- one event: any but an attribute has no prefix to keep
abbrev pub may_keep_among : List Event → Event → Bool
may_keep_among all (Attr name value) = keeps_among all name
may_keep_among all (Space prefix uri) = true
may_keep_among all (Start name) = true
may_keep_among all (Chars text) = true
may_keep_among all End = true
may_keep_among all (Comment text) = true
may_keep_among all (Pi target value) = true

unfoldable pub keep_among : List Event → List Event → Bool
keep_among all [] = true
keep_among all (e ∷ es) = may_keep_among all e && keep_among all es
