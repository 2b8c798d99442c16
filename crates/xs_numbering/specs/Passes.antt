-- The numbers of all nodes, counted in one pass.
use Rattle.std.specs.Prelude.{ℕ, ◌+◌, Bool, false, List, filter, get_or, length, Option, Some, None, set, if◌then◌else◌}
use Rattle.std.specs.List.{range_with_len}
use Rattle.xs_tree.specs.Kinds.{is_child_kind}
use Rattle.xs_tree.specs.Record.{Record, is_child}
use Rattle.xs_numbering.specs.Counting.{looked_at}

-- whether a table has a flag for a place
abbrev pub is_flagged : List Bool → ℕ → Bool
is_flagged flags n = get_or flags n false

-- one more where a node is counted
abbrev pub counted_on : Bool → ℕ → ℕ
counted_on counts before = if counts then before + 1 else before

-- how many of the nodes before a place are counted that are looked at
abbrev pub running : (counts from : ℕ → Bool) → List Record → (root : ℕ) → ℕ → ℕ
running counts from rs r n = length (filter counts (looked_at from rs r n))

-- the same after a node
abbrev pub carried_on : (has_level starts counts : Bool) → ℕ → ℕ
carried_on level starts counts before = if level then (if starts then 0 else counted_on counts before) else before

-- the parent of a node that is a child
abbrev pub held_by : Record → Option ℕ
held_by r = if is_child_kind r.kind then r.parent else None

-- how many of the children of the node at p that are before a place are counted
abbrev pub children_seen : (counts : ℕ → Bool) → List Record → ℕ → ℕ → ℕ
children_seen counts rs p n = length (filter counts (filter (is_child rs p) (range_with_len 0 n)))

-- a table of numbers at a parent, and with one more there where its child is counted
abbrev pub seen_at : List ℕ → Option ℕ → ℕ
seen_at seen None = 0
seen_at seen (Some p) = get_or seen p 0

abbrev pub seen_with : Bool → Option ℕ → List ℕ → List ℕ
seen_with counts None seen = seen
seen_with counts (Some p) seen = if counts then set seen p (get_or seen p 0 + 1) else seen
