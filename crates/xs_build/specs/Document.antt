-- The tree that the bytes of a document represent, or the fault of the first bad line.
use Rattle.std.specs.Prelude.{ℕ, ◌+◌, List, [], ◌∷◌, not, nat_le, Option, if◌then◌else◌, is_some, length, map, option_map, reverse}
use Rattle.std.specs.List.{filter_map, flat_map}
use Rattle.xs_pyx.specs.Row.{Row, rows_of}
use Rattle.xs_pyx.specs.Reading.{reading}
use Rattle.xs_tree.specs.Record.{Record, root_record}
use Rattle.xs_build.specs.Faults.{no_root, too_large, truncated}
use Rattle.xs_build.specs.LineContext.{LineContext, line_context, nesting, going_back, open_name, has_start}
use Rattle.xs_build.specs.Rules.{reading_nodes, reading_faults, first_fault, is_stray}

-- a line among the others: those before it, the nearest first, the line, and those behind it
pub record Place : Type 0 where
  pub before : List Row
  pub row : Row
  pub behind : List Row

abbrev pub context_at : Place → LineContext
context_at p = line_context p.before (p.row ∷ p.behind)

-- how many nodes a line gives; wherever they stand, they are as many
abbrev pub count_at : Place → ℕ
count_at p = length (reading_nodes (context_at p) p.behind 0 0 (reading p.row))

-- how many nodes stand before a line, the root among them
unfoldable pub nodes_before : List Row → List Row → ℕ
nodes_before [] lines = 1
nodes_before (row ∷ before) lines = nodes_before before (row ∷ lines) + count_at (record { before = before; row = row; behind = lines })

-- the node of an open element, the innermost except so many that are passed over; the root where no more are open
unfoldable pub open_node : ℕ → List Row → List Row → ℕ
open_node passed [] lines = 0
open_node passed (row ∷ before) lines = going_back (nesting row) passed (λ name. nodes_before before (row ∷ lines)) (λ n. open_node n before (row ∷ lines))

-- the nodes that a line gives
unfoldable pub nodes_at : Place → List Record
nodes_at p = reading_nodes (context_at p) p.behind (open_node 0 p.before (p.row ∷ p.behind)) (nodes_before p.before (p.row ∷ p.behind)) (reading p.row)

-- the fault of a line, the first in the order of the table; None: it has none
unfoldable pub fault_at : Place → Option ℕ
fault_at p =
    let nodes = nodes_before p.before (p.row ∷ p.behind) + count_at p in
    first_fault (reading_faults (context_at p) p.behind nodes (is_stray (context_at p) p.row) (reading p.row))

-- the number of the line
abbrev pub number_at : Place → ℕ
number_at p = length p.before + 1

-- the places of these lines, where others stand before them
abbrev pub places : List Row → List Row → List Place
places before [] = []
places before (row ∷ behind) = record { before = before; row = row; behind = behind } ∷ places (row ∷ before) behind

-- What lines represent: nodes, and the line of each; or a fault, with the number of a line.
pub data Outcome : Type 0 where
  tree : List Record → List ℕ → Outcome
  refused : ℕ → ℕ → Outcome

-- the number of the fault of a bad line, and that of the line
abbrev pub bad_at : Place → Option (ℕ × ℕ)
bad_at p = option_map (λ fault. (fault, number_at p)) (fault_at p)

-- Where no line is bad: there is an element (6 NoRoot), and none is open at the end (12 Truncated), each with the number of the
-- last line; else the nodes of all lines, one after another. The root is on line 0.
abbrev pub without_bad_line : List Row → List Record → List ℕ → Outcome
without_bad_line before nodes lines =
    if not (has_start before) then refused no_root (length before)
    else if is_some (open_name 0 before) then refused truncated (length before)
    else tree nodes lines

-- the first bad line, or else what there is without one
abbrev pub refused_first : List (ℕ × ℕ) → Outcome → Outcome
refused_first [] whole = whole
refused_first (b ∷ bs) whole = refused b.0 b.1

abbrev pub lines_at : Place → List ℕ
lines_at p = map (λ _. number_at p) (nodes_at p)

-- what lines represent
abbrev pub outcome : List Row → Outcome
outcome rows =
    let ps = places [] rows in
    refused_first (filter_map bad_at ps) (without_bad_line (reverse rows) (root_record ∷ flat_map nodes_at ps) (0 ∷ flat_map lines_at ps))

-- What the bytes of a document represent. More bytes than the limit are a fault of line 0 (11 TooLarge), which comes before all
-- others.
unfoldable pub document : ℕ → List ℕ → Outcome
document limit bytes = if nat_le (length bytes) limit then outcome (rows_of bytes) else refused too_large 0
