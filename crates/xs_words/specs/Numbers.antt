-- The numbers that a command line writes.
use Rattle.std.specs.Prelude.{ℕ, ◌+◌, ◌-◌, ◌*◌, ◌&&◌, Bool, [], ◌∷◌, Option, Some, None, if◌then◌else◌, nat_le, length}
use Rattle.std.specs.Char.{is_ascii_digit}
use Rattle.std.specs.List.{list_all}
use Rattle.xs_words.specs.Choice.{Text}

-- the number that digits write
abbrev pub value_from : ℕ → Text → ℕ
value_from n [] = n
value_from n (d ∷ ds) = value_from (n * 10 + (d - 48)) ds

-- 1 to 13 ASCII digits
abbrev pub is_number : Text → Bool
is_number word = list_all is_ascii_digit word && (nat_le 1 (length word) && nat_le (length word) 13)

abbrev pub up_to : ℕ → ℕ → Option ℕ
up_to most n = if nat_le 1 n && nat_le n most then Some n else None

-- the number from 1 to the most that a word writes
unfoldable pub number_up_to : ℕ → Text → Option ℕ
number_up_to most word = if is_number word then up_to most (value_from 0 word) else None
