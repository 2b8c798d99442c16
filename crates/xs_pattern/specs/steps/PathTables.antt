-- Tables of the nodes that match an alternative (XSLT 1.0, 5.2).
use Rattle.std.specs.Prelude.{◌≡◌, ℕ, ◌<◌, ◌&&◌, not, Bool, true, false, List, [], ◌∷◌, reverse, length, get_or, Option, Some, None, Vec}
use Rattle.std.specs.declared.alloc.Global.{Global}
use Rattle.std.specs.List.{list_all}
use Rattle.xs_tree.specs.Record.{Record}
use Rattle.xs_value.specs.Tables.{Table}
use Rattle.xs_xpath.specs.Tree.{Tree}
use Rattle.xs_xpath.specs.Uses.{uses_current, uses_key}
use Rattle.xs_pattern_spec.specs.Matching.{ends_path, matches_path, pattern_context, selected, start_of}
use Rattle.xs_pattern_spec.specs.Predicates.{is_among}
use Rattle.xs_pattern.specs.steps.Climb.{is_anywhere}

-- A table says of each node whether it matches an alternative, whatever the keys.
abbrev pub IsPathTable : List Record → (scope : List (List ℕ × List ℕ)) → Tree → List Bool → Type 0
IsPathTable rs scope e t = (keys : List Table) (n : ℕ) → n < length rs → get_or t n false ≡ matches_path keys (pattern_context rs scope n) e

-- whether an expression calls neither `key` nor `current`
abbrev pub is_free : Tree → Bool
is_free e = not (uses_key e) && not (uses_current e)

-- whether there is a table: these two are not called, and the path begins at any node or at a root
abbrev pub has_path_table : Tree → Bool
has_path_table e = is_free e && is_anywhere (start_of e)

-- a table says of each node whether a path ends there, whatever the keys and the node that is tried
abbrev pub EndsIn : List Record → (scope : List (List ℕ × List ℕ)) → (start : Tree) → (steps : List Tree) → List Bool → Type 0
EndsIn rs scope start steps t =
    (keys : List Table) (m n : ℕ) → n < length rs → get_or t n false ≡ ends_path keys (pattern_context rs scope m) start steps n

-- where a path of these steps ends, if there is a table
abbrev pub AreEndsIn : List Record → (scope : List (List ℕ × List ℕ)) → (start : Tree) → (steps : List Tree) → Option (Vec Bool Global) → Type 0
AreEndsIn rs scope start steps None = is_anywhere start ≡ false
AreEndsIn rs scope start steps (Some t) =
    (is_anywhere start ≡ true) × (list_all is_free steps ≡ true → EndsIn rs scope start (reverse steps) t.items)

-- where it ends with one step more
abbrev pub IsNextIn : List Record → (scope : List (List ℕ × List ℕ)) → Tree → (before : List Bool) → List Bool → Type 0
IsNextIn rs scope s before t =
    is_free s ≡ true → (start : Tree) (steps : List Tree) → EndsIn rs scope start steps before → EndsIn rs scope start (s ∷ steps) t

-- whether a step selects the node at n from the node at p, and that is in the table
abbrev pub is_selected : List Record → (scope : List (List ℕ × List ℕ)) → Tree → List Bool → (n p : ℕ) → Bool
is_selected rs scope s table n p = get_or table p false && is_among n (selected [] s (pattern_context rs scope p))
