-- The axes by their names.
use Rattle.std.specs.Prelude.{ℕ, List, [], ◌∷◌, codes}
use Rattle.xs_tree.specs.declared.axes.Axis.{Axis}
use Rattle.xs_tree.specs.declared.axes.Axis.TheVariants.{Child, Descendant, Parent, Ancestor, FollowingSibling, PrecedingSibling, Following, Preceding, Attribute, Namespace, SelfNode, DescendantOrSelf, AncestorOrSelf}

-- (XPath 1.0, 2.2)
unfoldable pub axes : List (List ℕ × Axis)
axes =
    (codes "child", Child)
    ∷ (codes "descendant", Descendant)
    ∷ (codes "parent", Parent)
    ∷ (codes "ancestor", Ancestor)
    ∷ (codes "following-sibling", FollowingSibling)
    ∷ (codes "preceding-sibling", PrecedingSibling)
    ∷ (codes "following", Following)
    ∷ (codes "preceding", Preceding)
    ∷ (codes "attribute", Attribute)
    ∷ (codes "namespace", Namespace)
    ∷ (codes "self", SelfNode)
    ∷ (codes "descendant-or-self", DescendantOrSelf)
    ∷ (codes "ancestor-or-self", AncestorOrSelf)
    ∷ []
