-- What is left of a walk along an axis.
use Rattle.std.specs.Prelude.{◌≡◌, ℕ, ◌+◌, ◌-◌, ◌<◌, ◌≤◌, Bool, List, [], ◌∷◌, Option, Some, MatchOption, filter, reverse, length}
use Rattle.std.specs.List.{range_with_len}
use Rattle.xs_tree.specs.Kinds.{is_child_kind}
use Rattle.xs_tree.specs.Record.{Record, at, is_child}
use Rattle.xs_tree.specs.Walk.{children_from, attributes_from, namespaces_from}
use Rattle.xs_tree.specs.Axis.{is_ancestor, is_preceding, root_of}
use Rattle.xs_axes.specs.declared.walks.Walk.{Walk}
use Rattle.xs_axes.specs.declared.walks.Walk.TheVariants.{Nothing, Single, Siblings, Attributes, Namespaces, Content, SelfAndContent, Ancestors}
use Rattle.xs_axes.specs.declared.walks.Walk.TheVariants.{SelfAndAncestors, SiblingsBefore, Preceding}

-- the places before k that pass the test, the last first
abbrev pub passing_before : (ℕ → Bool) → ℕ → List ℕ
passing_before test k = reverse (filter test (range_with_len 0 k))

-- the places from a on and before b that pass the test, in document order
abbrev pub passing_between : (ℕ → Bool) → ℕ → ℕ → List ℕ
passing_between test a b = filter test (range_with_len a (b - a))

-- whether the node at a place can be a child: no root, attribute or namespace node
abbrev pub is_content : List Record → ℕ → Bool
is_content rs k = is_child_kind (at rs k).kind

-- the nodes that are still to come, in the order of the axis
abbrev pub nodes_left : List Record → Walk → List ℕ
nodes_left rs Nothing = []
nodes_left rs (Single n) = n ∷ []
nodes_left rs (Siblings parent from) = children_from rs parent from
nodes_left rs (Attributes parent from) = attributes_from rs parent from
nodes_left rs (Namespaces parent from) = namespaces_from rs parent from
nodes_left rs (Content from end) = passing_between (is_content rs) from end
nodes_left rs (SelfAndContent n end) = n ∷ passing_between (is_content rs) (n + 1) end
nodes_left rs (Ancestors n) = passing_before (is_ancestor rs n) n
nodes_left rs (SelfAndAncestors n) = n ∷ passing_before (is_ancestor rs n) n
nodes_left rs (SiblingsBefore parent before) = passing_before (is_child rs parent) before
nodes_left rs (Preceding n root before) = passing_before (is_preceding rs n) before

-- the first of some nodes, with a walk that has the others left; none where there is none
abbrev pub IsStepOf : List Record → List ℕ → Option (ℕ × Walk) → Type 0
IsStepOf rs left step = MatchOption step (left ≡ []) (λ s. left ≡ s.0 ∷ nodes_left rs s.1)

-- the walk is one of the tree
abbrev pub IsWalkOf : List Record → Walk → Type 0
IsWalkOf rs Nothing = Unit {0}
IsWalkOf rs (Single n) = Unit {0}
IsWalkOf rs (Siblings parent from) = parent < from
IsWalkOf rs (Attributes parent from) = parent < from
IsWalkOf rs (Namespaces parent from) = parent < from
IsWalkOf rs (Content from end) = end ≤ length rs
IsWalkOf rs (SelfAndContent n end) = (n < length rs) × (end ≤ length rs)
IsWalkOf rs (Ancestors n) = n < length rs
IsWalkOf rs (SelfAndAncestors n) = n < length rs
IsWalkOf rs (SiblingsBefore parent before) = (before < length rs) × ((at rs before).parent ≡ Some parent)
IsWalkOf rs (Preceding n root before) = (n < length rs) × (before ≤ n) × (root_of rs n ≡ root)
