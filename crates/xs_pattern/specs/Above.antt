-- Tables of what stands before the last `//` of a path: where it ends (XSLT 1.0, 5.2).
use Rattle.std.specs.Prelude.{◌≡◌, ℕ, ◌<◌, ◌==◌, ◌&&◌, not, Bool, true, false, List, ◌∷◌, reverse, length, get_or, Option, Some, None, Vec}
use Rattle.std.specs.declared.alloc.Global.{Global}
use Rattle.std.specs.List.{list_all, list_any}
use Rattle.std.specs.Option.{option_map_or}
use Rattle.xs_tree.specs.declared.axes.Axis.{Axis}
use Rattle.xs_tree.specs.declared.axes.Axis.TheVariants.{AncestorOrSelf}
use Rattle.xs_tree.specs.Axis.{axis_list}
use Rattle.xs_tree.specs.Kinds.{is_root_kind}
use Rattle.xs_tree.specs.Record.{Record, at}
use Rattle.xs_value.specs.Tables.{Table}
use Rattle.xs_xpath.specs.declared.name.NodeTest.{NodeTest}
use Rattle.xs_xpath.specs.Tree.{Tree, no_trees, descend, step}
use Rattle.xs_eval_spec.specs.Context.{Context}
use Rattle.xs_eval_spec.specs.Paths.{passes}
use Rattle.xs_pattern_spec.specs.Matching.{ends_path, pattern_context, start_of, steps_of}
use Rattle.xs_pattern.specs.steps.Climb.{before_slashes, ends_above, is_anywhere, stands_on}

-- A table says of each node whether what stands before the last `//` of a path ends at it or above it, whatever the keys and the
-- declarations in scope.
abbrev pub IsAbove : List Record → Tree → List Bool → Type 0
IsAbove rs e t =
    (keys : List Table) (scope : List (List ℕ × List ℕ)) (m n : ℕ) → n < length rs
    → get_or t n false ≡ ends_above keys (pattern_context rs scope m) (start_of e) (before_slashes (reverse (steps_of e))) n

-- the same in one context
abbrev pub IsAboveIn : List Table → Context → (start : Tree) → (steps : List Tree) → List Bool → Type 0
IsAboveIn keys c start steps t =
    (n : ℕ) → n < length c.tree → get_or t n false ≡ ends_above keys c start (before_slashes steps) n

-- `//`, or a step without predicates
abbrev pub is_plain : Tree → Bool
is_plain (step axis which no_trees) = true
is_plain descend = true
is_plain _ = false

-- whether a path of these steps begins at any node or at a root, and has no predicate
abbrev pub is_plain_path : (start : Tree) → (steps : List Tree) → Bool
is_plain_path start steps = is_anywhere start && list_all is_plain steps

-- whether there is a table: something stands before the last `//`, and has no predicate, and neither `id` nor `key`
abbrev pub is_tabled : (start : Tree) → (before : List Tree) → Bool
is_tabled start before = not (length before == 0) && is_plain_path start before

abbrev pub has_table : Tree → Bool
has_table e = is_tabled (start_of e) (before_slashes (reverse (steps_of e)))

-- a table says of each node whether a path ends there
abbrev pub EndsBy : List Record → (start : Tree) → (steps : List Tree) → List Bool → Type 0
EndsBy rs start steps t =
    (keys : List Table) (scope : List (List ℕ × List ℕ)) (m n : ℕ) → n < length rs
    → get_or t n false ≡ ends_path keys (pattern_context rs scope m) start steps n

-- where a path ends, if it has a table
abbrev pub AreEnds : List Record → (start : Tree) → (steps : List Tree) → Option (Vec Bool Global) → Type 0
AreEnds rs start steps None = is_plain_path start steps ≡ false
AreEnds rs start steps (Some t) = (is_plain_path start steps ≡ true) × EndsBy rs start steps t.items

-- where it ends with one step more
abbrev pub AreNext : List Record → Tree → List Bool → Option (Vec Bool Global) → Type 0
AreNext rs s before None = is_plain s ≡ false
AreNext rs s before (Some t) =
    (is_plain s ≡ true) × ((start : Tree) (steps : List Tree) → EndsBy rs start steps before → EndsBy rs start (s ∷ steps) t.items)

-- whether the node at n or one of its ancestors is in the table
abbrev pub is_below : List Bool → List Record → ℕ → Bool
is_below table rs n = list_any (λ k. get_or table k false) (axis_list AncestorOrSelf rs n)

-- whether a step without predicates leads to the node at n from its parent, and that is in the table
abbrev pub is_led : Axis → NodeTest → List Bool → List Record → ℕ → Bool
is_led axis which table rs n =
    option_map_or (λ p. get_or table p false && (stands_on axis (at rs n).kind && passes axis which (at rs n))) (at rs n).parent false

-- whether the node at n is a root
abbrev pub is_root_at : List Record → ℕ → Bool
is_root_at rs n = is_root_kind (at rs n).kind
