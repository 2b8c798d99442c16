-- What the kinds of node may hold, and in which order (XPath 1.0, 5).
use Rattle.std.specs.Prelude.{ℕ, Bool, true, false}
use Rattle.xs_tree.specs.declared.kinds.Kind.{Kind}
use Rattle.xs_tree.specs.declared.kinds.Kind.TheVariants.{Root, Element, Attribute, Space, Text, Comment, Pi}

-- whether a node of this kind has an expanded name (XPath 1.0, 5)
abbrev pub bears_name : Kind → Bool
bears_name Root = false
bears_name Element = true
bears_name Attribute = true
bears_name Space = true
bears_name Text = false
bears_name Comment = false
bears_name Pi = true

-- whether what names a node of this kind is a local part alone, in no namespace and without a prefix: the prefix that a
-- namespace node represents, the target of a processing instruction (XPath 1.0, 5.4 and 5.5)
abbrev pub has_local_name : Kind → Bool
has_local_name Root = false
has_local_name Element = false
has_local_name Attribute = false
has_local_name Space = true
has_local_name Text = false
has_local_name Comment = false
has_local_name Pi = true

-- whether a node of this kind can be a child (XPath 1.0, 5.1 and 5.2): an element, a text, a comment or
-- a processing instruction
abbrev pub is_child_kind : Kind → Bool
is_child_kind Root = false
is_child_kind Element = true
is_child_kind Attribute = false
is_child_kind Space = false
is_child_kind Text = true
is_child_kind Comment = true
is_child_kind Pi = true

-- whether a node of the first kind can be the parent of one of the second: roots of children, elements of
-- attribute and namespace nodes too (XPath 1.0, 5.1 to 5.4)
abbrev pub can_hold : Kind → Kind → Bool
can_hold Root kind = is_child_kind kind
can_hold Element Root = false
can_hold Element Element = true
can_hold Element Attribute = true
can_hold Element Space = true
can_hold Element Text = true
can_hold Element Comment = true
can_hold Element Pi = true
can_hold Attribute kind = false
can_hold Space kind = false
can_hold Text kind = false
can_hold Comment kind = false
can_hold Pi kind = false

-- the order inside an element: namespace nodes, attributes, children (XPath 1.0, 5)
abbrev pub rank : Kind → ℕ
rank Root = 2
rank Element = 2
rank Attribute = 1
rank Space = 0
rank Text = 2
rank Comment = 2
rank Pi = 2

-- whether a node of this kind is an element (XPath 1.0, 5.2)
abbrev pub is_element_kind : Kind → Bool
is_element_kind Root = false
is_element_kind Element = true
is_element_kind Attribute = false
is_element_kind Space = false
is_element_kind Text = false
is_element_kind Comment = false
is_element_kind Pi = false

-- whether a node of this kind is an attribute (XPath 1.0, 5.3)
abbrev pub is_attribute_kind : Kind → Bool
is_attribute_kind Root = false
is_attribute_kind Element = false
is_attribute_kind Attribute = true
is_attribute_kind Space = false
is_attribute_kind Text = false
is_attribute_kind Comment = false
is_attribute_kind Pi = false

-- whether a node of this kind is a text node (XPath 1.0, 5.7)
abbrev pub is_text_kind : Kind → Bool
is_text_kind Root = false
is_text_kind Element = false
is_text_kind Attribute = false
is_text_kind Space = false
is_text_kind Text = true
is_text_kind Comment = false
is_text_kind Pi = false

-- whether the string value of a node of this kind is that of the texts inside it (XPath 1.0, 5.1 and 5.2)
abbrev pub has_content : Kind → Bool
has_content Root = true
has_content Element = true
has_content Attribute = false
has_content Space = false
has_content Text = false
has_content Comment = false
has_content Pi = false

-- whether a node of this kind begins a document (XPath 1.0, 5.1)
abbrev pub is_root_kind : Kind → Bool
is_root_kind Root = true
is_root_kind Element = false
is_root_kind Attribute = false
is_root_kind Space = false
is_root_kind Text = false
is_root_kind Comment = false
is_root_kind Pi = false

-- whether a node of this kind is a namespace node (XPath 1.0, 5.4)
abbrev pub is_namespace_kind : Kind → Bool
is_namespace_kind Root = false
is_namespace_kind Element = false
is_namespace_kind Attribute = false
is_namespace_kind Space = true
is_namespace_kind Text = false
is_namespace_kind Comment = false
is_namespace_kind Pi = false
