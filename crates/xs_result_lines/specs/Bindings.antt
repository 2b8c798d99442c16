-- Which prefixes the start tag of an element binds, and which of these bindings it declares (Namespaces in XML 1.0, 3, 5 and 6). Where
-- that standard leaves a choice, as of the prefix of an attribute that has none, it is this project's own.
use Rattle.std.specs.Prelude.{ℕ, zero, suc, ◌+◌, List, [], ◌∷◌, ◌++◌, Bool, true, false, not, ◌&&◌, Option, None, Some, if◌then◌else◌, codes, filter, length}
use Rattle.std.specs.Prelude.{is_some, take_while, unwrap_or}
use Rattle.std.specs.BTreeMap.{insert_entry, is_at}
use Rattle.std.specs.Cmp.Lexicographic.{slice_cmp}
use Rattle.std.specs.Fmt.{decimal}
use Rattle.std.specs.List.{filter_map}
use Rattle.std.specs.Map.{lookup}
use Rattle.std.specs.Ordering.{nat_cmp}
use Rattle.std.specs.Str.{bytes_eq}
use Rattle.std.specs.declared.cmp.Ordering.{Ordering}
pub use Rattle.xs_text.specs.Names.{xml_uri}
use Rattle.xs_result.specs.Built.{is_empty}
use Rattle.xs_trace.specs.Label.{Label}
use Rattle.xs_trace.specs.declared.event.Event.{Event}
use Rattle.xs_trace.specs.declared.event.Event.TheVariants.{Start, Space, Attr, Chars, End, Comment, Pi}

-- ---- bindings
-- a prefix, empty for the default namespace, and the URI that it is bound to, empty for no namespace
abbrev pub Binding : Type 0
Binding = List ℕ × List ℕ

-- by the first byte that differs, and else by the length; so the default namespace comes first
abbrev pub order_of_prefixes : List ℕ → List ℕ → Ordering
order_of_prefixes a b = slice_cmp nat_cmp a b

-- the URI to which the first of these bindings binds a prefix, if one binds it
unfoldable pub uri_in : List Binding → List ℕ → Option (List ℕ)
uri_in bs prefix = lookup (is_at (order_of_prefixes prefix)) bs

abbrev pub binds : List Binding → List ℕ → Bool
binds bs prefix = is_some (uri_in bs prefix)

-- `xml` is bound everywhere (3)
abbrev pub outermost : List Binding
outermost = (codes "xml", xml_uri) ∷ []

-- ---- the start tag of an element: of the events after its start those before its first child or its end
abbrev pub is_in_tag : Event → Bool
is_in_tag (Space prefix uri) = true
is_in_tag (Attr name value) = true
is_in_tag (Start name) = false
is_in_tag (Chars text) = false
is_in_tag End = false
is_in_tag (Comment text) = false
is_in_tag (Pi target value) = false

abbrev pub space_of : Event → Option Binding
space_of (Space prefix uri) = Some (prefix, uri)
space_of (Attr name value) = None
space_of (Start name) = None
space_of (Chars text) = None
space_of End = None
space_of (Comment text) = None
space_of (Pi target value) = None

pub record Attribute : Type 0 where
  pub name : Label
  pub value : List ℕ

abbrev pub attribute_of : Event → Option Attribute
attribute_of (Attr name value) = Some (record { name = name; value = value })
attribute_of (Space prefix uri) = None
attribute_of (Start name) = None
attribute_of (Chars text) = None
attribute_of End = None
attribute_of (Comment text) = None
attribute_of (Pi target value) = None

-- its namespace nodes
unfoldable pub spaces_in : List Event → List Binding
spaces_in es = filter_map space_of (take_while is_in_tag es)

-- and its attributes
unfoldable pub attributes_in : List Event → List Attribute
attributes_in es = filter_map attribute_of (take_while is_in_tag es)

-- ---- the bindings that it needs, each prefix once, in the order of the prefixes
-- one more, unless the prefix is bound
abbrev pub added : List Binding → Binding → List Binding
added m b = if binds m b.0 then m else insert_entry order_of_prefixes m b.0 b.1

-- The name of the element binds its own prefix; one in no namespace has none, and so undoes the default (6.2).
abbrev pub own_binding : Label → List Binding
own_binding name = (name.prefix, name.uri) ∷ []

unfoldable pub with_spaces : List Binding → List Binding → List Binding
with_spaces m [] = m
with_spaces m (b ∷ bs) = with_spaces (added m b) bs

-- An attribute needs a prefix where it is in a namespace (6.2); that of `xml` has its own.
abbrev pub needs_prefix : Label → Bool
needs_prefix name = not (is_empty name.uri) && not (bytes_eq name.uri xml_uri)

-- it has a prefix, and that is bound to no other URI
abbrev pub keeps_prefix : List Binding → Label → Bool
keeps_prefix m name = not (is_empty name.prefix) && bytes_eq (unwrap_or (uri_in m name.prefix) name.uri) name.uri

-- the first prefix that is bound to a URI, except the default namespace, which is for elements alone
unfoldable pub prefix_for : List Binding → List ℕ → Option (List ℕ)
prefix_for [] uri = None
prefix_for (b ∷ bs) uri = if not (is_empty b.0) && bytes_eq b.1 uri then Some b.0 else prefix_for bs uri

-- `ns0`, `ns1` and so on
abbrev pub new_prefix : ℕ → List ℕ
new_prefix k = codes "ns" ++ decimal k

-- the first of them that is not bound, from this number on, in so many tries
unfoldable pub new_from : ℕ → List Binding → ℕ → List ℕ
new_from zero m k = new_prefix k
new_from (suc tries) m k = if binds m (new_prefix k) then new_from tries m (k + 1) else new_prefix k

-- as many tries as there are bindings are enough
abbrev pub first_new : List Binding → List ℕ
first_new m = new_from (length m) m 0

-- The prefix that such an attribute gets: its own where it keeps that, else one that is bound to its URI, else a new one.
abbrev pub chosen_prefix : List Binding → Label → List ℕ
chosen_prefix m name = if keeps_prefix m name then name.prefix else unwrap_or (prefix_for m name.uri) (first_new m)

-- the prefix that an attribute is written with, after those before it
unfoldable pub attribute_prefix : List Binding → Label → List ℕ
attribute_prefix m name = if needs_prefix name then chosen_prefix m name else name.prefix

unfoldable pub with_attribute : List Binding → Label → List Binding
with_attribute m name = if needs_prefix name then added m (chosen_prefix m name, name.uri) else m

unfoldable pub with_attributes : List Binding → List Attribute → List Binding
with_attributes m [] = m
with_attributes m (a ∷ more) = with_attributes (with_attribute m a.name) more

-- the bindings before the attributes: of the element's name, and of its namespace nodes in their order
unfoldable pub bindings_before : Label → List Event → List Binding
bindings_before name es = with_spaces (own_binding name) (spaces_in es)

-- all bindings of the start tag of an element with this name and these events after its start
unfoldable pub bindings : Label → List Event → List Binding
bindings name es = with_attributes (bindings_before name es) (attributes_in es)

-- ---- those that are declared
-- around the element the prefix is bound to another URI, or to none
abbrev pub is_new : List Binding → Binding → Bool
is_new around b = not (bytes_eq (unwrap_or (uri_in around b.0) []) b.1)

-- of the bindings in force around the element the nearest come first
unfoldable pub declared : List Binding → List Binding → List Binding
declared around m = filter (is_new around) m
