-- Facts that are sorted by place.
use Rattle.std.specs.Prelude.{◌≡◌, ℕ, Bool, true, false, List}
use Rattle.std.specs.Cmp.Lexicographic.{slice_cmp}
use Rattle.std.specs.List.Sorted.{IsPartitionPoint, IsSortedBy}
use Rattle.std.specs.Ordering.{is_lt, nat_cmp}
use Rattle.xs_core.specs.declared.piece.PieceFacts.{PieceFacts}
use Rattle.xs_core.specs.Machine.{Place}

-- whether a place comes before another one
abbrev pub is_below : Place → Place → Bool
is_below p q = is_lt (slice_cmp nat_cmp p q)

abbrev pub is_before : PieceFacts → PieceFacts → Bool
is_before x y = is_below x.place y.place

-- no facts are listed after those of a later place
abbrev pub IsSorted : List PieceFacts → Type 0
IsSorted xs = IsSortedBy is_before xs

-- those before an index are of places before this one, and those from there on are not
abbrev pub IsPoint : List PieceFacts → Place → ℕ → Type 0
IsPoint xs p i = IsPartitionPoint (λ (y : PieceFacts). is_below y.place p ≡ true) (λ y. is_below y.place p ≡ false) xs i
