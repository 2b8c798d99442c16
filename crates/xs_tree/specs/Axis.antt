-- The thirteen axes (XPath 1.0, 2.2): each is the places of the node's own document that stand to the node as the axis says.
use Rattle.std.specs.Prelude.{ℕ, zero, suc, ◌==◌, ◌||◌, ◌&&◌, not, Bool, true, false, List, filter, reverse, if◌then◌else◌, nat_lt}
use Rattle.std.specs.Option.{option_map_or}
use Rattle.xs_tree.specs.declared.axes.Axis.{Axis}
use Rattle.xs_tree.specs.declared.axes.Axis.TheVariants.{Child, Descendant, Parent, Ancestor, FollowingSibling, PrecedingSibling, Following, Preceding}
use Rattle.xs_tree.specs.declared.axes.Axis.TheVariants.{SelfNode, DescendantOrSelf, AncestorOrSelf, Namespace, Attribute as AttributeAxis}
use Rattle.xs_tree.specs.Kinds.{is_child_kind, is_root_kind}
use Rattle.xs_tree.specs.Record.{Record, at, places, is_place, is_child, is_attribute, is_namespace, is_inside}

-- the root of the document that the node at a place is in: the last root that is not after it (XPath 1.0, 5.1)
abbrev pub root_of : List Record → ℕ → ℕ
root_of rs zero = 0
root_of rs (suc k) = if is_root_kind (at rs (suc k)).kind then suc k else root_of rs k

-- whether two nodes are in one document
abbrev pub is_same_document : List Record → ℕ → ℕ → Bool
is_same_document rs n k = root_of rs n == root_of rs k

-- whether the node at k is a descendant of the node at n: inside it, and no attribute or namespace node
abbrev pub is_descendant : List Record → ℕ → ℕ → Bool
is_descendant rs n k = is_inside rs n k && is_child_kind (at rs k).kind

-- whether the node at k is the parent of the node at n, or the parent of that, and so on
abbrev pub is_ancestor : List Record → ℕ → ℕ → Bool
is_ancestor rs n k = is_inside rs k n

-- whether the nodes at n and k are children of one parent; attribute and namespace nodes have no siblings
abbrev pub is_sibling : List Record → ℕ → ℕ → Bool
is_sibling rs n k = is_child_kind (at rs n).kind && option_map_or (λ p. is_child rs p k) (at rs n).parent false

-- whether the node at k is after the node at n in its document, and neither a descendant of it nor an attribute or namespace
-- node
abbrev pub is_following : List Record → ℕ → ℕ → Bool
is_following rs n k = is_same_document rs n k && nat_lt n k && not (is_inside rs n k) && is_child_kind (at rs k).kind

-- whether the node at k is before the node at n in its document, and neither an ancestor of it nor an attribute or namespace
-- node
abbrev pub is_preceding : List Record → ℕ → ℕ → Bool
is_preceding rs n k = is_same_document rs n k && nat_lt k n && not (is_inside rs k n) && is_child_kind (at rs k).kind

-- whether the node at k is on an axis of the node at n (XPath 1.0, 2.2)
abbrev pub is_on : Axis → List Record → ℕ → ℕ → Bool
is_on Child rs n k = is_child rs n k
is_on Descendant rs n k = is_descendant rs n k
is_on Parent rs n k = is_place k (at rs n).parent
is_on Ancestor rs n k = is_ancestor rs n k
is_on FollowingSibling rs n k = is_sibling rs n k && nat_lt n k
is_on PrecedingSibling rs n k = is_sibling rs n k && nat_lt k n
is_on Following rs n k = is_following rs n k
is_on Preceding rs n k = is_preceding rs n k
is_on AttributeAxis rs n k = is_attribute rs n k
is_on Namespace rs n k = is_namespace rs n k
is_on SelfNode rs n k = k == n
is_on DescendantOrSelf rs n k = k == n || is_descendant rs n k
is_on AncestorOrSelf rs n k = k == n || is_ancestor rs n k

-- whether an axis goes backwards: it has only the node and nodes before it; parent and self, with one node at most, count as
-- forwards (XPath 1.0, 2.4)
abbrev pub is_reverse : Axis → Bool
is_reverse Child = false
is_reverse Descendant = false
is_reverse Parent = false
is_reverse Ancestor = true
is_reverse FollowingSibling = false
is_reverse PrecedingSibling = true
is_reverse Following = false
is_reverse Preceding = true
is_reverse AttributeAxis = false
is_reverse Namespace = false
is_reverse SelfNode = false
is_reverse DescendantOrSelf = false
is_reverse AncestorOrSelf = true

-- the nodes of an axis, in the order of the axis: document order, and turned round where the axis goes backwards
unfoldable pub axis_list : Axis → List Record → ℕ → List ℕ
axis_list axis rs n = let found = filter (is_on axis rs n) (places rs) in if is_reverse axis then reverse found else found
