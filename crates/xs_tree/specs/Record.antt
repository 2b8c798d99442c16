-- A tree as contracts see it: its nodes in document order (XPath 1.0, 5).
use Rattle.std.specs.Prelude.{ℕ, zero, suc, ◌==◌, ◌||◌, ◌&&◌, Bool, false, List, [], ◌∷◌, ◌++◌, Option, None, Some, if◌then◌else◌, filter, length, get_or}
use Rattle.std.specs.List.{range_with_len, flat_map}
use Rattle.std.specs.Option.{option_map_or}
use Rattle.xs_tree.specs.declared.kinds.Kind.{Kind}
use Rattle.xs_tree.specs.declared.kinds.Kind.TheVariants.{Root, Space}
use Rattle.xs_tree.specs.Kinds.{is_child_kind, is_attribute_kind, is_namespace_kind, is_text_kind, has_content}
use Rattle.xs_tree.specs.declared.names.Name.{Name}

-- A node. The text is that of a text node, a comment or a processing instruction, the value of an attribute, the URI of a namespace
-- node, and empty for elements. A root begins a document and has no parent; its text is the name of its document, empty for the
-- first one, which is no name of the node: a root has none (XPath 1.0, 5.1).
pub record Record : Type 0 where
  pub kind : Kind
  pub name : Option Name
  pub text : List ℕ
  pub parent : Option ℕ

-- the root of the first document, which has no name
abbrev pub root_record : Record
root_record = record { kind = Root; name = None; text = []; parent = None }

-- the node at a place; past the end a root
abbrev pub at : List Record → ℕ → Record
at rs i = get_or rs i root_record

-- a tree with a node more at its end, inside the node at p
abbrev pub with_node : List Record → Kind → Option Name → List ℕ → ℕ → List Record
with_node rs kind name text p = rs ++ record { kind = kind; name = name; text = text; parent = Some p } ∷ []

-- a tree with a namespace node more, with the name and the URI of the one at like
abbrev pub with_same : List Record → ℕ → ℕ → List Record
with_same rs like p = with_node rs Space (at rs like).name (at rs like).text p

-- the parts of a node's name, empty where it bears none; of a namespace node the local part is the prefix, of a processing
-- instruction the target (XPath 1.0, 5.4 and 5.5; Namespaces in XML 1.0, 2.1 and 4)
abbrev pub name_uri : Record → List ℕ
name_uri r = option_map_or (λ name. name.uri) r.name []

abbrev pub name_local : Record → List ℕ
name_local r = option_map_or (λ name. name.local) r.name []

abbrev pub name_prefix : Record → List ℕ
name_prefix r = option_map_or (λ name. name.prefix) r.name []

-- the same of the node at n
abbrev pub uri_at : List Record → ℕ → List ℕ
uri_at rs n = name_uri (at rs n)

abbrev pub local_at : List Record → ℕ → List ℕ
local_at rs n = name_local (at rs n)

abbrev pub prefix_at : List Record → ℕ → List ℕ
prefix_at rs n = name_prefix (at rs n)

-- all places of a tree, in document order
abbrev pub places : List Record → List ℕ
places rs = range_with_len 0 (length rs)

-- whether a parent is the node at n
abbrev pub is_place : ℕ → Option ℕ → Bool
is_place n None = false
is_place n (Some p) = p == n

-- whether the node at k is a child of the node at n; attribute and namespace nodes have a parent and are
-- no children (XPath 1.0, 5.2 to 5.4)
abbrev pub is_child : List Record → ℕ → ℕ → Bool
is_child rs n k = is_place n (at rs k).parent && is_child_kind (at rs k).kind

-- the children of the node at n, in document order (XPath 1.0, 5.1 and 5.2)
abbrev pub children : List Record → ℕ → List ℕ
children rs n = filter (is_child rs n) (places rs)

-- whether the node at k is an attribute of the node at n (XPath 1.0, 5.3)
abbrev pub is_attribute : List Record → ℕ → ℕ → Bool
is_attribute rs n k = is_place n (at rs k).parent && is_attribute_kind (at rs k).kind

-- the attributes of the node at n, in document order (XPath 1.0, 5.3)
abbrev pub attributes : List Record → ℕ → List ℕ
attributes rs n = filter (is_attribute rs n) (places rs)

-- whether the node at k is a namespace node of the node at n (XPath 1.0, 5.4)
abbrev pub is_namespace : List Record → ℕ → ℕ → Bool
is_namespace rs n k = is_place n (at rs k).parent && is_namespace_kind (at rs k).kind

-- the namespace nodes of the node at n, in document order (XPath 1.0, 5.4)
abbrev pub namespaces : List Record → ℕ → List ℕ
namespaces rs n = filter (is_namespace rs n) (places rs)

-- whether the chain of parents from the node at k comes to the node at n in at most so many steps
abbrev pub climbs : ℕ → List Record → ℕ → ℕ → Bool
climbs zero rs n k = false
climbs (suc steps) rs n k = option_map_or (λ p. p == n || climbs steps rs n p) (at rs k).parent false

-- whether the node at k is inside the node at n: its parent, or the parent of that, and so on, is the node
-- at n; parents come first, so a chain has at most k steps (XPath 1.0, 5)
abbrev pub is_inside : List Record → ℕ → ℕ → Bool
is_inside rs n k = climbs k rs n k

-- whether the node at k is a text node inside the node at n (XPath 1.0, 5.7)
abbrev pub is_text_inside : List Record → ℕ → ℕ → Bool
is_text_inside rs n k = is_inside rs n k && is_text_kind (at rs k).kind

-- the text nodes inside the node at n, in document order (XPath 1.0, 5.7)
abbrev pub texts : List Record → ℕ → List ℕ
texts rs n = filter (is_text_inside rs n) (places rs)

-- the characters of a text node (XPath 1.0, 5.7)
abbrev pub own_text : Record → List ℕ
own_text r = if is_text_kind r.kind then r.text else []

-- the string value of the node at n: of a root or an element the texts inside it, one after another, of
-- any other node its own text (XPath 1.0, 5.1 to 5.7)
abbrev pub string_value : List Record → ℕ → List ℕ
string_value rs n = if has_content (at rs n).kind then flat_map (λ k. (at rs k).text) (texts rs n) else (at rs n).text
