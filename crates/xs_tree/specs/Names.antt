-- When two name parts are the same, and which of two comes first.
use Rattle.std.specs.Prelude.{ℕ, Bool, List}
use Rattle.std.specs.Str.{bytes_eq}
use Rattle.std.specs.Cmp.Lexicographic.{slice_cmp}
use Rattle.std.specs.Ordering.{nat_cmp}
use Rattle.std.specs.declared.cmp.Ordering.{Ordering}

-- the same bytes
abbrev pub same_text : List ℕ → List ℕ → Bool
same_text a b = bytes_eq a b

-- by the first byte that differs, and else by the length
abbrev pub order_of_texts : List ℕ → List ℕ → Ordering
order_of_texts a b = slice_cmp nat_cmp a b
