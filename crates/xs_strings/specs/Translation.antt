-- A text with characters replaced or removed (XPath 1.0, 4.2, `translate`).
use Rattle.std.specs.Prelude.{ℕ, ◌==◌, List, Option, Some, None, slice_get}
use Rattle.std.specs.List.{filter_map, position}

-- what represents a character that has this place in the second argument, if any
abbrev pub replacement_at : List ℕ → ℕ → Option ℕ → Option ℕ
replacement_at to c None = Some c
replacement_at to c (Some place) = slice_get to place

-- its first place there decides; a character with no partner in the third argument is removed
abbrev pub replacement : List ℕ → List ℕ → ℕ → Option ℕ
replacement from to c = replacement_at to c (position (λ d. d == c) from)

abbrev pub translated : List ℕ → List ℕ → List ℕ → List ℕ
translated characters from to = filter_map (replacement from to) characters
