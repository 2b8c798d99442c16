-- What a node of a stylesheet has: attributes, namespaces in scope, and the elements around it.
use Rattle.std.specs.Prelude.{ℕ, zero, suc, ◌+◌, ◌&&◌, Bool, List, [], ◌∷◌, map, find, Option, Some, None, false, is_some, option_map, codes, if◌then◌else◌}
use Rattle.std.specs.Borrow.{Bor}
use Rattle.std.specs.Option.{option_map_or, option_and_then}
use Rattle.std.specs.Str.{bytes_eq}
use Rattle.xs_text.specs.Names.{QName, qname_of}
use Rattle.xs_tree.specs.Record.{Record, at, attributes, namespaces, uri_at, local_at}
use Rattle.xs_xpath.specs.Names.{is_bound, uri_of}

-- A node, its parent, and so on up to a root; at most so many nodes. Parents come before their children, so that the node at a
-- place has at most one node more than its place says.
unfoldable pub chain : ℕ → List Record → ℕ → List ℕ
chain zero rs n = []
chain (suc most) rs n = n ∷ option_map_or (chain most rs) (at rs n).parent []

abbrev pub ancestors_or_self : List Record → ℕ → List ℕ
ancestors_or_self rs n = chain (n + 1) rs n

-- an attribute by its expanded name
abbrev pub bears : List Record → (uri local : List ℕ) → ℕ → Bool
bears rs uri local a = bytes_eq (uri_at rs a) uri && bytes_eq (local_at rs a) local

abbrev pub attribute_of : List Record → ℕ → (uri local : List ℕ) → Option ℕ
attribute_of rs n uri local = find (bears rs uri local) (attributes rs n)

-- its value
abbrev pub value_of : List Record → ℕ → (uri local : List ℕ) → Option (List ℕ)
value_of rs n uri local = option_map (λ a. (at rs a).text) (attribute_of rs n uri local)

-- whether an element has an attribute in no namespace with this local part
abbrev pub has : List Record → ℕ → List ℕ → Bool
has rs n local = is_some (attribute_of rs n [] local)

-- the namespaces in scope at an element: prefixes with their URIs, the default's being empty (XPath 1.0, 5.4)
abbrev pub pair_at : List Record → ℕ → List ℕ × List ℕ
pair_at rs s = (local_at rs s, (at rs s).text)

abbrev pub scope_at : List Record → ℕ → List (List ℕ × List ℕ)
scope_at rs n = map (pair_at rs) (namespaces rs n)

-- an expanded name: its URI, empty for none, and its local part
abbrev pub Name : Type 0
Name = List ℕ × List ℕ

-- a name whose texts are lent
abbrev pub name_data : Bor (List ℕ) × Bor (List ℕ) → Name
name_data name = (name.0.now, name.1.now)

abbrev pub is_same_name : Name → Name → Bool
is_same_name a b = bytes_eq a.0 b.0 && bytes_eq a.1 b.1

-- The expanded name that a QName represents in a scope: without a prefix it is in no namespace, the default one not being used
-- (XSLT 1.0, 2.4). None where the text is no QName or its prefix is not bound.
abbrev pub if_bound : List (List ℕ × List ℕ) → QName → Option Name
if_bound pairs q = if is_bound pairs q.prefix then Some (uri_of pairs q.prefix, q.local) else None

abbrev pub expanded : List (List ℕ × List ℕ) → List ℕ → Option Name
expanded pairs text = option_and_then (if_bound pairs) (qname_of text)

-- the expanded name that the attribute `name` of an element says
abbrev pub own_name : List Record → ℕ → Option Name
own_name rs n = option_and_then (expanded (scope_at rs n)) (value_of rs n [] (codes "name"))

-- a name that may be missing is this one
abbrev pub is_named : Name → Option Name → Bool
is_named name other = option_map_or (is_same_name name) other false
