-- Pairs of prefix and URI whose prefixes rise by their bytes, as those of the namespace nodes of a tree do.
use Rattle.std.specs.Prelude.{ℕ, Bool, true, ◌&&◌, List, [], ◌∷◌}
use Rattle.std.specs.Cmp.Lexicographic.{slice_cmp}
use Rattle.std.specs.Ordering.{is_lt, nat_cmp}

-- whether a text is below another one
abbrev pub is_below : List ℕ → List ℕ → Bool
is_below text other = is_lt (slice_cmp nat_cmp text other)

-- whether each prefix is above the one before it, the first one above this
abbrev pub rises_above : List ℕ → List (List ℕ × List ℕ) → Bool
rises_above prefix [] = true
rises_above prefix (pair ∷ pairs) = is_below prefix pair.0 && rises_above pair.0 pairs

-- whether each prefix is above the one before it
abbrev pub rises : List (List ℕ × List ℕ) → Bool
rises [] = true
rises (pair ∷ pairs) = rises_above pair.0 pairs
