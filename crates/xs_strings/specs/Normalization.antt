-- A text with its white space normalized (XPath 1.0, 4.2, `normalize-space`).
use Rattle.std.specs.Prelude.{ℕ, ◌==◌, Bool, not, List, length}
use Rattle.std.specs.List.{slice_split, filter, join_with_byte}
use Rattle.xs_text.specs.WhiteSpace.{is_white_space}

abbrev pub is_nonempty : List ℕ → Bool
is_nonempty xs = not (length xs == 0)

-- the longest pieces of a text that hold no white space
abbrev pub words : List ℕ → List (List ℕ)
words characters = filter is_nonempty (slice_split is_white_space characters)

-- those pieces, with one space between each two
unfoldable pub normalized : List ℕ → List ℕ
normalized characters = join_with_byte 32 (words characters)
