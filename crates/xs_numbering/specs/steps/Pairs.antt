-- How a format is read from after a token on.
use Rattle.std.specs.Prelude.{◌≡◌, ℕ, ◌<◌, true, List, [], ◌∷◌, ◌++◌, length, Option}
use Rattle.xs_numbering.specs.Formats.{Piece, Token, Separator, pieces, following, suffix, is_apart}
use Rattle.xs_numbering.specs.Numbers.{number_text, others_text}

-- no token is left
abbrev pub IsEnd : List ℕ → Type 0
IsEnd rest = (following (pieces rest) ≡ []) × (suffix (pieces rest) ≡ rest)

-- the next separator and token, and what follows them
pub record IsPair (rest separator token after : List ℕ) : Type 0 where
  pub whole : pieces rest ≡ Separator separator ∷ (Token token ∷ pieces after)
  pub apart : is_apart after ≡ true
  pub shorter : length after < length rest

-- the separator and the token of the next number, and what follows them
pub record IsNext (separator token rest by_separator by_token after : List ℕ) : Type 0 where
  pub text : (group : Option (List ℕ × ℕ)) (n : ℕ) (ns : List ℕ)
      → others_text group (following (pieces rest)) (separator, token) (n ∷ ns)
      ≡ by_separator ++ (number_text group by_token n ++ others_text group (following (pieces after)) (by_separator, by_token) ns)
  pub apart : is_apart after ≡ true
