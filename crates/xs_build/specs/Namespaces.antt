-- Names and the namespaces that they are in (Namespaces in XML 1.0).
use Rattle.std.specs.Prelude.{ℕ, List, [], ◌∷◌, Bool, true, false, not, ◌&&◌, ◌||◌, Option, None, Some, if◌then◌else◌, unwrap_or, codes, option_map, map}
use Rattle.std.specs.Char.{to_ascii_lowercase}
use Rattle.std.specs.Str.{bytes_eq}
use Rattle.std.specs.BTreeMap.{insert_entry, is_at}
use Rattle.std.specs.Map.{lookup, remove_entry}
pub use Rattle.xs_text.specs.Names.{QName, is_colon, is_ncname, prefixed, unprefixed, xml_uri, xmlns_uri}
unfoldable pub use Rattle.xs_text.specs.Names.{qname_of}
use Rattle.xs_tree.specs.Names.{order_of_texts}
use Rattle.xs_tree.specs.declared.names.Name.{Name}

abbrev pub is_empty : {X : Type 0} → List X → Bool
is_empty [] = true
is_empty (x ∷ xs) = false

-- a prefix, empty for the default namespace, and the URI that it represents
abbrev pub Binding : Type 0
Binding = List ℕ × List ℕ

-- the bindings in force at a place, by the bytes of their prefixes, each prefix once
abbrev pub Bindings : Type 0
Bindings = List Binding

-- `xml` is bound everywhere
abbrev pub outermost : Bindings
outermost = (codes "xml", xml_uri) ∷ []

-- the URI that a prefix represents
unfoldable pub uri_in : Bindings → List ℕ → Option (List ℕ)
uri_in scope prefix = lookup (is_at (order_of_texts prefix)) scope

-- One more binding, in the place of one of the same prefix. A default namespace that is empty undoes the one in force
-- (Namespaces in XML 1.0, 6.2).
abbrev pub bound : Binding → Bindings → Bindings
bound b scope = if is_empty b.1 then remove_entry (is_at (order_of_texts b.0)) scope else insert_entry order_of_texts scope b.0 b.1

-- The bindings inside a start tag with these declarations: they take the place of outer ones (Namespaces in XML 1.0, 6.1), and
-- of two of one prefix the first counts.
unfoldable pub scope_with : List Binding → Bindings → Bindings
scope_with [] outer = outer
scope_with (b ∷ bs) outer = bound b (scope_with bs outer)

-- the URI of a name; one without a prefix is in this namespace. None: the prefix is not bound.
abbrev pub uri_of : Bindings → List ℕ → List ℕ → Option (List ℕ)
uri_of scope plain [] = Some plain
uri_of scope plain (b ∷ prefix) = uri_in scope (b ∷ prefix)

abbrev pub named : QName → List ℕ → Name
named w uri = record { uri = uri; local = w.local; prefix = w.prefix }

-- a name without the prefix that it is written with (Namespaces in XML 1.0, 2.1)
pub record ExpandedName : Type 0 where
  pub uri : List ℕ
  pub local : List ℕ

abbrev pub expanded_name : Name → ExpandedName
expanded_name name = record { uri = name.uri; local = name.local }

-- the same URI and the same local part (Namespaces in XML 1.0, 6.3)
abbrev pub are_same : ExpandedName → ExpandedName → Bool
are_same a b = bytes_eq a.uri b.uri && bytes_eq a.local b.local

-- an element without a prefix is in the default namespace (Namespaces in XML 1.0, 6.2)
unfoldable pub element_name : Bindings → QName → Option Name
element_name scope w = option_map (named w) (uri_of scope (unwrap_or (uri_in scope []) []) w.prefix)

-- an attribute without a prefix is in none
unfoldable pub attribute_name : Bindings → QName → Option Name
attribute_name scope w = option_map (named w) (uri_of scope [] w.prefix)

-- The prefix that an attribute of this name declares: `xmlns` declares the default namespace, which is the empty prefix, and
-- `xmlns:p` declares `p` (Namespaces in XML 1.0, 3). None: it declares none.
unfoldable pub declared_prefix : QName → Option (List ℕ)
declared_prefix w =
    if is_empty w.prefix && bytes_eq w.local (codes "xmlns") then Some []
    else if bytes_eq w.prefix (codes "xmlns") then Some w.local
    else None

-- an attribute that declares a prefix is in the namespace of `xmlns`, so that two that declare one prefix have the same name
abbrev pub declaring_name : List ℕ → ExpandedName
declaring_name prefix = record { uri = xmlns_uri; local = prefix }

-- The expanded name of an attribute; None: its prefix is not bound.
abbrev pub attribute_expanded : Bindings → QName → Option (List ℕ) → Option ExpandedName
attribute_expanded scope w None = option_map expanded_name (attribute_name scope w)
attribute_expanded scope w (Some prefix) = Some (declaring_name prefix)

-- A prefix that is declared as nothing, the prefix `xmlns`, the prefix `xml` for another URI than its own, and its URI or that of
-- `xmlns` for another prefix or as the default (Namespaces in XML 1.0, 2.2 and 3).
unfoldable pub is_bad_binding : List ℕ → List ℕ → Bool
is_bad_binding prefix uri =
    not (is_empty prefix) && is_empty uri
    || bytes_eq prefix (codes "xmlns")
    || bytes_eq prefix (codes "xml") && not (bytes_eq uri xml_uri)
    || not (bytes_eq prefix (codes "xml")) && bytes_eq uri xml_uri
    || bytes_eq uri xmlns_uri

-- `xml`, in any case, which no processing instruction has as its target (XML 1.0, 2.6)
abbrev pub is_xml : List ℕ → Bool
is_xml target = bytes_eq (map to_ascii_lowercase target) (codes "xml")
