-- The lines of a document as its bytes have them, before anything is read of them. `Lines` has the same by rules.
use Rattle.std.specs.Prelude.{ℕ, List, [], ◌∷◌, ◌++◌, Bool, true, false, ◌==◌, if◌then◌else◌}
use Rattle.std.specs.List.{before_first, after_first, list_any}
use Rattle.xs_pyx.specs.FirstBytes.{line_feed}

-- a line: its bytes without the line feed, and whether a line feed ends it
pub record Row : Type 0 where
  pub bytes : List ℕ
  pub ended : Bool

abbrev pub is_line_feed : ℕ → Bool
is_line_feed b = b == line_feed

-- what stands behind the last line feed is a line that none ends, unless it is nothing
abbrev pub unended : List ℕ → List Row
unended [] = []
unended (b ∷ bytes) = record { bytes = b ∷ bytes; ended = false } ∷ []

-- the lines of the bytes, where `front` stands before them in the first line
unfoldable pub rows_behind : List ℕ → List ℕ → List Row
rows_behind front [] = unended front
rows_behind front (b ∷ bytes) =
    if is_line_feed b then record { bytes = front; ended = true } ∷ rows_behind [] bytes
    else rows_behind (front ++ b ∷ []) bytes

-- the lines of a document: its bytes between its line feeds
abbrev pub rows_of : List ℕ → List Row
rows_of bytes = rows_behind [] bytes

-- the first line of bytes that are not empty
abbrev pub first_row : List ℕ → Row
first_row bytes = record { bytes = before_first is_line_feed bytes; ended = list_any is_line_feed bytes }

-- the bytes behind the first line
abbrev pub behind_row : List ℕ → List ℕ
behind_row bytes = after_first is_line_feed bytes
