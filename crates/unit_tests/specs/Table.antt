-- Tables of pieces, given as data.
use Rattle.std.specs.Prelude.{ℕ, suc, ◌+◌, ◌-◌, List, [], ◌∷◌, ◌++◌, length, slice_get, Option, Some, None}
use Rattle.xs_trace.specs.Mark.{Tick, Put, Say, Stop, Hole, Trace, ◌⨾◌}
use Rattle.xs_trace.specs.Cut.{nowhere}
use Rattle.xs_pieces.specs.Tree.{tree_trace, Falls}
use Rattle.xs_pieces.specs.Ready.{IsReady}
use Rattle.unit_tests.specs.declared.table.Entry.{Entry}
use Rattle.unit_tests.specs.declared.table.Entry.TheVariants as entry
use Rattle.unit_tests.specs.declared.table.Row.{Row}
use Rattle.unit_tests.specs.declared.table.RowTask.{RowTask}

-- the number of the next hole after an entry
abbrev pub number_after : Entry → ℕ → ℕ
number_after (entry.Tick s) n = n
number_after (entry.Put e) n = n
number_after (entry.Say t) n = n
number_after (entry.Stop f s) n = n
number_after (entry.Child k) n = suc n

-- the marks of an entry, by those of the child with a number whose row comes after so many others
abbrev pub entry_marks : {H : Type 0} → (child : ℕ → ℕ → Trace H) → ℕ → Entry → Trace H
entry_marks child n (entry.Tick s) = Tick s ∷ []
entry_marks child n (entry.Put e) = Put e ∷ []
entry_marks child n (entry.Say t) = Say t ∷ []
entry_marks child n (entry.Stop f s) = Stop f s ∷ []
entry_marks child n (entry.Child k) = child n k

-- those of entries, one after another; the next hole has the number n
abbrev pub entries_marks : {H : Type 0} → (child : ℕ → ℕ → Trace H) → ℕ → List Entry → Trace H
entries_marks child n [] = []
entries_marks child n (e ∷ es) = entry_marks child n e ⨾ entries_marks child (number_after e n) es

-- the task of a child
abbrev pub child_of : RowTask → ℕ → ℕ → RowTask
child_of t n k = record { place = t.place ++ n ∷ []; row = t.row + 1 + k }

-- a row's marks; where there is no row, one tick
abbrev pub row_marks : {H : Type 0} → (child : ℕ → ℕ → Trace H) → Option Row → Trace H
row_marks child None = Tick nowhere ∷ []
row_marks child (Some r) = Tick r.site ∷ entries_marks child 0 r.entries.items

-- what a task does itself
abbrev pub own_marks : List Row → RowTask → Trace RowTask
own_marks rows t = row_marks (λ n k. Hole (child_of t n k) ∷ []) (slice_get rows t.row)

-- how many rows come from a task's row on
abbrev pub rank_in : List Row → RowTask → ℕ
rank_in rows t = length rows - t.row

-- what it does with all children
unfoldable pub whole_marks : List Row → RowTask → Trace RowTask
whole_marks rows t = tree_trace (rank_in rows) (own_marks rows) t

-- a runner of a table is ready, whatever its rows are, and ranks fall
abbrev pub IsTableReady : Type 0
IsTableReady = (rows : List Row) → IsReady (λ t. Unit {0}) (λ t. t.place) (own_marks rows) (whole_marks rows) × Falls (rank_in rows) (own_marks rows)
