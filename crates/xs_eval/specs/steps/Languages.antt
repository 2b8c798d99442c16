-- What the code compares of a language.
use Rattle.std.specs.Prelude.{ℕ, ◌==◌, Bool, true, List, [], ◌∷◌}
use Rattle.std.specs.Str.{bytes_eq, str_to_ascii_lowercase}

-- without regard to the case of letters
abbrev pub is_same_word : List ℕ → List ℕ → Bool
is_same_word word other = bytes_eq (str_to_ascii_lowercase word) (str_to_ascii_lowercase other)

-- what may follow a language in one that is a part of it: nothing, or a suffix
abbrev pub is_part : List ℕ → Bool
is_part [] = true
is_part (b ∷ bs) = b == 45
