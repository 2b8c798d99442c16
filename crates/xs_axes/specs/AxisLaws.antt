-- Laws of the axes.
use Rattle.std.specs.Prelude.{◌≡◌, ℕ, ◌<◌, ◌≤◌, ◌||◌, true, List, [], ◌∷◌, length}
use Rattle.std.specs.List.{count_by}
use Rattle.xs_tree.specs.declared.axes.Axis.{Axis}
use Rattle.xs_tree.specs.declared.axes.Axis.TheVariants.{Ancestor, Descendant, Following, Preceding, SelfNode}
use Rattle.xs_tree.specs.Kinds.{is_child_kind, is_root_kind}
use Rattle.xs_tree.specs.Record.{Record, at}
use Rattle.xs_tree.specs.Shape.{IsTree}
use Rattle.xs_tree.specs.Axis.{is_on, is_reverse, is_same_document}

abbrev pub five_axes : List Axis
five_axes = Ancestor ∷ Descendant ∷ Following ∷ Preceding ∷ SelfNode ∷ []

-- each node of a document, except attribute and namespace nodes, is on exactly one of the axes ancestor, descendant,
-- following, preceding and self (XPath 1.0, 2.2)
abbrev pub AxesShareOut : Type 0
AxesShareOut = (rs : List Record) (n k : ℕ) → IsTree rs → n < length rs → k < length rs → is_same_document rs n k ≡ true
    → (is_root_kind (at rs k).kind || is_child_kind (at rs k).kind) ≡ true → count_by (λ axis. is_on axis rs n k) five_axes ≡ 1

-- what is on an axis of a node is in its document
abbrev pub AxesStayInside : Type 0
AxesStayInside = (axis : Axis) (rs : List Record) (n k : ℕ) → IsTree rs → n < length rs → k < length rs → is_on axis rs n k ≡ true
    → is_same_document rs n k ≡ true

-- an axis that goes backwards has only the node and nodes before it (XPath 1.0, 2.4)
abbrev pub ReverseAxesGoBack : Type 0
ReverseAxesGoBack = (axis : Axis) (rs : List Record) (n k : ℕ) → IsTree rs → n < length rs → is_reverse axis ≡ true → is_on axis rs n k ≡ true → k ≤ n
