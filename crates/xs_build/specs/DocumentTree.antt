-- What a document's tree has beside the shape of a tree (XPath 1.0, 5), said of the document that begins at a root, wherever in a
-- tree that stands. That each document that is not refused has it is a law (src/laws.rt).
use Rattle.std.specs.Prelude.{◌≡◌, ℕ, ◌+◌, ◌<◌, ◌&&◌, ◌||◌, not, Bool, true, false, List, Some, map, length, codes, if◌then◌else◌}
use Rattle.std.specs.List.{count_by, list_any, IsDistinct}
use Rattle.std.specs.List.Sorted.{IsStrictlySortedBy}
use Rattle.std.specs.Str.{bytes_eq}
use Rattle.xs_tree.specs.declared.kinds.Kind.{Kind}
use Rattle.xs_tree.specs.declared.kinds.Kind.TheVariants.{Root, Element, Attribute, Space, Text, Comment, Pi}
use Rattle.xs_tree.specs.Kinds.{is_element_kind, is_text_kind}
use Rattle.xs_tree.specs.Names.{order_of_texts}
use Rattle.xs_tree.specs.Record.{Record, at, name_local, name_prefix, uri_at, local_at, prefix_at, children, attributes, namespaces}
use Rattle.xs_tree.specs.Axis.{root_of}
use Rattle.xs_build.specs.Namespaces.{is_empty, is_ncname, is_xml, is_bad_binding, xml_uri}

-- one document, and so one root (XPath 1.0, 5.1)
abbrev pub HasOneRoot : List Record → Type 0
HasOneRoot rs = (k : ℕ) → k < length rs → (at rs k).kind ≡ Root → k ≡ 0

-- the node at k is in the document that begins at this root (XPath 1.0, 5.1)
abbrev pub IsIn : List Record → ℕ → ℕ → Type 0
IsIn rs root k = (k < length rs) × (root_of rs k ≡ root)

-- the root has one element and no text (XPath 1.0, 5.1; XML 1.0, 2.1)
pub record HasTopElement (rs : List Record) (root : ℕ) : Type 0 where
  pub one : count_by (λ k. is_element_kind (at rs k).kind) (children rs root) ≡ 1
  pub alone : list_any (λ k. is_text_kind (at rs k).kind) (children rs root) ≡ false

-- a prefix, if there is one, is an NCName (Namespaces in XML 1.0, 4)
abbrev pub is_prefix : List ℕ → Bool
is_prefix prefix = is_empty prefix || is_ncname prefix

-- the name is a QName (Namespaces in XML 1.0, 4)
abbrev pub is_qname : Record → Bool
is_qname r = is_prefix (name_prefix r) && is_ncname (name_local r)

-- a prefix, or none for the default namespace, with a URI that may be declared for it: the prefix is not `xmlns`, none but `xml` has
-- the URI of that, and none has that of `xmlns` (Namespaces in XML 1.0, 2.2 and 3)
abbrev pub may_be_bound : List ℕ → List ℕ → Bool
may_be_bound prefix uri = is_prefix prefix && not (is_bad_binding prefix uri)

-- an NCName that is not `xml`, in any case (XML 1.0, 2.6; Namespaces in XML 1.0, 7)
abbrev pub is_target : List ℕ → Bool
is_target target = is_ncname target && not (is_xml target)

abbrev pub is_named_as : Kind → Record → Bool
is_named_as Root r = true
is_named_as Element r = is_qname r
is_named_as Attribute r = is_qname r
is_named_as Space r = may_be_bound (name_local r) r.text
is_named_as Text r = true
is_named_as Comment r = true
is_named_as Pi r = is_target (name_local r)

-- the node has a name that nodes of its kind can have
abbrev pub is_well_named : Record → Bool
is_well_named r = is_named_as r.kind r

-- A text node has a character, and no text node beside it: nothing is inside it, so that its next sibling is the next node
-- (XPath 1.0, 5.7).
pub record IsWholeText (rs : List Record) (k : ℕ) : Type 0 where
  pub some : is_empty (at rs k).text ≡ false
  pub apart : (at rs (k + 1)).parent ≡ (at rs k).parent → is_text_kind (at rs (k + 1)).kind ≡ false

-- whether the namespace node at k represents this prefix and this URI
abbrev pub binds : List Record → List ℕ → List ℕ → ℕ → Bool
binds rs prefix uri k = bytes_eq (local_at rs k) prefix && bytes_eq (at rs k).text uri

-- The namespace nodes of an element: one for each prefix that is in scope, by the bytes of the prefixes, `xml` among them, and
-- none for no namespace (XPath 1.0, 5.4).
pub record HasSpaces (rs : List Record) (n : ℕ) : Type 0 where
  pub order : IsStrictlySortedBy order_of_texts (map (local_at rs) (namespaces rs n))
  pub xml : list_any (binds rs (codes "xml") xml_uri) (namespaces rs n) ≡ true
  pub full : list_any (λ k. is_empty (at rs k).text) (namespaces rs n) ≡ false

-- whether two nodes have one expanded name (XPath 1.0, 5)
abbrev pub is_same_name : List Record → ℕ → ℕ → Bool
is_same_name rs j k = bytes_eq (uri_at rs j) (uri_at rs k) && bytes_eq (local_at rs j) (local_at rs k)

-- whether some namespace node of the node at n represents the default namespace
abbrev pub has_default : List Record → ℕ → Bool
has_default rs n = list_any (λ k. is_empty (local_at rs k)) (namespaces rs n)

-- An element is in the namespace that its prefix represents, and one without a prefix in the default namespace, or in none where
-- there is no default (Namespaces in XML 1.0, 6).
abbrev pub is_element_in_scope : List Record → ℕ → Bool
is_element_in_scope rs n =
    list_any (binds rs (prefix_at rs n) (uri_at rs n)) (namespaces rs n)
    || is_empty (prefix_at rs n) && is_empty (uri_at rs n) && not (has_default rs n)

-- An attribute is in the namespace that its prefix represents, and one without a prefix in none, and is no declaration
-- (XPath 1.0, 5.3; Namespaces in XML 1.0, 6.2).
abbrev pub is_attribute_in_scope : List Record → ℕ → ℕ → Bool
is_attribute_in_scope rs n k =
    if is_empty (prefix_at rs k) then is_empty (uri_at rs k) && not (bytes_eq (local_at rs k) (codes "xmlns"))
    else list_any (binds rs (prefix_at rs k) (uri_at rs k)) (namespaces rs n)

-- whether some namespace node of the node at n represents this prefix
abbrev pub has_prefix : List Record → ℕ → List ℕ → Bool
has_prefix rs n prefix = list_any (λ k. bytes_eq (local_at rs k) prefix) (namespaces rs n)

-- The node at n has each prefix of the node at p, with whatever URI. The default namespace alone can be undone (Namespaces in XML
-- 1.0, 6.1 and 6.2).
abbrev pub inherits : List Record → ℕ → ℕ → Bool
inherits rs p n = not (list_any (λ j. not (is_empty (local_at rs j)) && not (has_prefix rs n (local_at rs j))) (namespaces rs p))

pub record IsElement (rs : List Record) (n : ℕ) : Type 0 where
  pub spaces : HasSpaces rs n
  pub inherits : (p : ℕ) → (at rs n).parent ≡ Some p → inherits rs p n ≡ true
  pub scope : is_element_in_scope rs n ≡ true
  pub distinct : IsDistinct (is_same_name rs) (attributes rs n)
  pub attributes : list_any (λ k. not (is_attribute_in_scope rs n k)) (attributes rs n) ≡ false

-- the nodes from this root on are one well-formed document (XPath 1.0, 5), whose shape xs_tree says
pub record IsDocument (rs : List Record) (root : ℕ) : Type 0 where
  pub begins : (root < length rs) × ((at rs root).kind ≡ Root)
  pub top : HasTopElement rs root
  pub names : (k : ℕ) → IsIn rs root k → is_well_named (at rs k) ≡ true
  pub texts : (k : ℕ) → IsIn rs root k → (at rs k).kind ≡ Text → IsWholeText rs k
  pub elements : (n : ℕ) → IsIn rs root n → (at rs n).kind ≡ Element → IsElement rs n

-- the tree is that of one well-formed document
pub record IsOneDocument (rs : List Record) : Type 0 where
  pub one : HasOneRoot rs
  pub document : IsDocument rs 0
