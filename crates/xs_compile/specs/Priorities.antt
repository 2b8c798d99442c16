-- Priorities that are written.
use Rattle.std.specs.Prelude.{ℕ, List, ◌++◌, take, drop, codes, if◌then◌else◌, ℤ, pos, neg_ℤ}
use Rattle.std.specs.List.{before_first, after_first}
use Rattle.std.specs.Str.Parse.{digits_value, starts_with_minus}
use Rattle.xs_elements.specs.Values.{is_point}

-- A priority in ten-thousandths (XSLT 1.0, 5.5): what stands before the point, and four digits behind it.
abbrev pub tenthousandths : List ℕ → ℕ
tenthousandths value = digits_value 10 (before_first is_point value ++ take 4 (after_first is_point value ++ codes "0000"))

abbrev pub priority_in : List ℕ → ℤ
priority_in value = if starts_with_minus value then neg_ℤ (pos (tenthousandths (drop 1 value))) else pos (tenthousandths value)
