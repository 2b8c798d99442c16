-- Numbers among the nodes that are alike, counted in one pass.
use Rattle.std.specs.Prelude.{ℕ, ◌+◌, ◌==◌, ◌&&◌, Bool, List, if◌then◌else◌}
use Rattle.std.specs.Borrow.{Bor}
use Rattle.std.specs.HashMap.{get_by}
use Rattle.std.specs.Option.{option_map_or, unwrap_or}
use Rattle.std.specs.Str.{bytes_eq}
use Rattle.xs_tree.specs.Kinds.{is_root_kind}
use Rattle.xs_tree.specs.Record.{Record, name_local, name_uri}
use Rattle.xs_numbering.specs.Counting.{has_level, kind_number}
use Rattle.xs_numbering.specs.Passes.{held_by}
use Rattle.xs_number_tables.specs.declared.alike.Seen.{Seen}

-- what alike nodes have in common
abbrev pub KindAndName : Type 0
KindAndName = ℕ × (List ℕ × List ℕ)

abbrev pub likeness : Record → KindAndName
likeness r = (kind_number r.kind, (name_uri r, name_local r))

abbrev pub likeness_in : ℕ × (Bor (List ℕ) × Bor (List ℕ)) → KindAndName
likeness_in l = (l.0, (l.1.0.now, l.1.1.now))

abbrev pub is_likeness : KindAndName → KindAndName → Bool
is_likeness a b = (a.0 == b.0) && bytes_eq a.1.0 b.1.0 && bytes_eq a.1.1 b.1.1

-- how many of a likeness were seen in a group
abbrev pub seen_by : Seen → ℕ → KindAndName → ℕ
seen_by seen g l = unwrap_or (get_by (λ k. (g == k.0) && ((l.0 == k.1.0) && (bytes_eq l.1.0 k.1.1.0.now && bytes_eq l.1.1 k.1.1.1.now))) seen.counts) 0

abbrev pub seen_in : Seen → ℕ → Record → ℕ
seen_in seen g r = seen_by seen g (likeness r)

-- the same among the children of the node that holds a node
abbrev pub held_count : Seen → Record → ℕ
held_count seen r = option_map_or (λ p. seen_in seen p r) (held_by r) 0

-- a document begins a group, and so does what comes after a node that matches `from`
abbrev pub group_at : Record → ℕ → ℕ
group_at r group = if is_root_kind r.kind then group + 1 else group

abbrev pub group_after : Record → (starts : Bool) → ℕ → ℕ
group_after r starts group = if has_level r then (if starts then group + 1 else group) else group
