-- The characters of a text by their positions (XPath 1.0, 4.2, `substring`).
use Rattle.std.specs.Prelude.{ℕ, ◌-◌, ◌&&◌, Bool, false, List, map, Option, Some, None, ℤ, pos, negsuc, ◌+ℤ◌, int_le, int_lt}
use Rattle.std.specs.List.{enumerate_from, filter}
use Rattle.xs_num.specs.declared.number.Number.{Number}
use Rattle.xs_num.specs.declared.number.Number.TheVariants.{Whole, NaN}

-- the position is at least the first number and, where there is a count, less than the sum of both; no position compares with NaN
abbrev pub is_kept : Number → Option Number → ℕ → Bool
is_kept (Whole first) None position = int_le first (pos position)
is_kept (Whole first) (Some (Whole count)) position = int_le first (pos position) && int_lt (pos position) (first +ℤ count)
is_kept (Whole first) (Some NaN) position = false
is_kept NaN count position = false

-- the characters at those positions; the first character has position 1
abbrev pub substring_of : List ℕ → Number → Option Number → List ℕ
substring_of characters first count = map (λ e. e.1) (filter (λ e. is_kept first count e.0) (enumerate_from 1 characters))

-- how many positions there are below a number
abbrev pub places_below : ℤ → ℕ
places_below (pos n) = n - 1
places_below (negsuc n) = 0
