-- How a path is gone over from its end.
use Rattle.std.specs.Prelude.{◌≡◌, ℕ, ◌<◌, ◌≤◌, Bool, true, false, List, [], ◌∷◌, reverse, length, if◌then◌else◌}
use Rattle.std.specs.List.{list_any}
use Rattle.xs_tree.specs.declared.axes.Axis.{Axis}
use Rattle.xs_tree.specs.declared.axes.Axis.TheVariants.{Child, Attribute as AttributeAxis, AncestorOrSelf}
use Rattle.xs_tree.specs.declared.kinds.Kind.{Kind}
use Rattle.xs_tree.specs.Axis.{axis_list}
use Rattle.xs_tree.specs.Kinds.{is_attribute_kind, is_child_kind}
use Rattle.xs_value.specs.Tables.{Table}
use Rattle.xs_xpath.specs.declared.expr.Expr.{Expr}
use Rattle.xs_xpath.specs.Exprs.{trees_from}
use Rattle.xs_xpath.specs.Tree.{Tree, here, root}
use Rattle.xs_eval_spec.specs.Context.{Context}
use Rattle.xs_pattern.specs.declared.matching.Reached.{Reached}
use Rattle.xs_pattern.specs.declared.matching.Reached.TheVariants.{Fits, Differs, Below}
use Rattle.xs_pattern_spec.specs.Matching.{ends_path, is_descend}

-- whether a node of a kind stands on an axis of its parent, of the two that patterns have
abbrev pub stands_on : Axis → Kind → Bool
stands_on Child kind = is_child_kind kind
stands_on AttributeAxis kind = is_attribute_kind kind
stands_on _ kind = false

-- whether the node at n, or one of its ancestors, is at the end of a path
unfoldable pub ends_above : List Table → Context → (start : Tree) → (steps : List Tree) → ℕ → Bool
ends_above keys c start steps n = list_any (ends_path keys c start steps) (axis_list AncestorOrSelf c.tree n)

-- the steps, the last one first
abbrev pub backwards : List Expr → List Tree
backwards es = reverse (trees_from es)

-- what stands before the last `//`, of steps with the last one first; nothing, where there is none
abbrev pub before_slashes : List Tree → List Tree
before_slashes [] = []
before_slashes (s ∷ before) = if is_descend s then before else before_slashes before

-- The steps after the last `//` lead from the node at top to the node at n. So does the path end there where it ends at top or above,
-- and it ends above n where it does so.
pub record IsBelow (keys : List Table) (c : Context) (start : Tree) (steps before : List Expr) (n top : ℕ) : Type 0 where
  pub here : ends_path keys c start (backwards steps) n ≡ ends_above keys c start (backwards before) top
  pub above : ends_above keys c start (backwards steps) n ≡ ends_above keys c start (backwards before) top
  pub rest : backwards before ≡ before_slashes (backwards steps)
  pub shorter : length before < length steps
  pub within : top ≤ n

-- what the steps after the last `//`, gone over from a node, come to
abbrev pub IsReached : List Table → Context → Tree → List Expr → ℕ → Reached → Type 0
IsReached keys c start steps n Fits = ends_path keys c start (backwards steps) n ≡ true
IsReached keys c start steps n Differs = ends_path keys c start (backwards steps) n ≡ false
IsReached keys c start steps n (Below before top) = IsBelow keys c start steps before.now n top

-- whether there is a node above each one at which a path that begins so may begin
abbrev pub is_anywhere : Tree → Bool
is_anywhere here = true
is_anywhere root = true
is_anywhere _ = false

-- what a `//` comes to, after which steps lead to the node at n
abbrev pub IsBehind : Tree → List Expr → ℕ → Reached → Type 0
IsBehind start before n Fits = (before ≡ []) × (is_anywhere start ≡ true)
IsBehind start before n Differs = ⊥
IsBehind start before n (Below steps top) = (steps.now ≡ before) × (top ≡ n)
