-- How a format is read (XSLT 1.0, 7.7.1): as tokens, of letters and digits, and separators, of all else. Letters and digits are
-- those of ASCII (this project's own).
use Rattle.std.specs.Prelude.{ℕ, ◌-◌, ◌==◌, ◌&&◌, Bool, true, false, not, List, [], ◌∷◌, length, drop, get_or, codes, if◌then◌else◌}
use Rattle.std.specs.Char.{is_ascii_alphanumeric}
use Rattle.std.specs.List.{prefix_len}
use Rattle.xs_numbering.specs.declared.numerals.Case.TheVariants.{Lower, Upper}
use Rattle.xs_numbering.specs.declared.numerals.Style.{Style}
use Rattle.xs_numbering.specs.declared.numerals.Style.TheVariants.{Alphabetic, Roman, Decimal}

pub data Piece : Type 0 where
  Token : List ℕ → Piece
  Separator : List ℕ → Piece

-- pieces with a byte before them, which belongs to the first one where that is of its kind
abbrev pub with_token : ℕ → List Piece → List Piece
with_token b [] = Token (b ∷ []) ∷ []
with_token b (Token t ∷ rest) = Token (b ∷ t) ∷ rest
with_token b (Separator s ∷ rest) = Token (b ∷ []) ∷ (Separator s ∷ rest)

abbrev pub with_separator : ℕ → List Piece → List Piece
with_separator b [] = Separator (b ∷ []) ∷ []
with_separator b (Token t ∷ rest) = Separator (b ∷ []) ∷ (Token t ∷ rest)
with_separator b (Separator s ∷ rest) = Separator (b ∷ s) ∷ rest

-- the pieces of a format, each as long as can be
unfoldable pub pieces : List ℕ → List Piece
pieces [] = []
pieces (b ∷ bs) = if is_ascii_alphanumeric b then with_token b (pieces bs) else with_separator b (pieces bs)

-- what comes before the first token, and the pieces from there on
abbrev pub prefix : List Piece → List ℕ
prefix [] = []
prefix (Token t ∷ rest) = []
prefix (Separator s ∷ rest) = s

abbrev pub without_prefix : List Piece → List Piece
without_prefix [] = []
without_prefix (Token t ∷ rest) = Token t ∷ rest
without_prefix (Separator s ∷ rest) = rest

-- the first token, which is `1` where there is none, and the pieces after it
abbrev pub first_token : List Piece → List ℕ
first_token [] = codes "1"
first_token (Token t ∷ rest) = t
first_token (Separator s ∷ rest) = codes "1"

abbrev pub after_token : List Piece → List Piece
after_token [] = []
after_token (Token t ∷ rest) = rest
after_token (Separator s ∷ rest) = []

-- after the first token: the other ones, each with the separator before it
abbrev pub following : List Piece → List (List ℕ × List ℕ)
following [] = []
following (Token t ∷ rest) = []
following (Separator s ∷ []) = []
following (Separator s ∷ (Separator t ∷ rest)) = []
following (Separator s ∷ (Token t ∷ rest)) = (s, t) ∷ following rest

-- what comes after the last token
abbrev pub suffix : List Piece → List ℕ
suffix [] = []
suffix (Token t ∷ rest) = suffix rest
suffix (Separator s ∷ []) = s
suffix (Separator s ∷ (Token t ∷ rest)) = suffix rest
suffix (Separator s ∷ (Separator t ∷ rest)) = suffix rest

-- the tokens `a`, `A`, `i` and `I`; any other of one letter or digit is read as `1`
abbrev pub letter_style : ℕ → Style
letter_style c =
    if c == 97 then Alphabetic Lower
    else if c == 65 then Alphabetic Upper else if c == 105 then Roman Lower else if c == 73 then Roman Upper else Decimal 1

-- zeros, and at last a 1
abbrev pub is_padded : List ℕ → Bool
is_padded [] = false
is_padded (c ∷ cs) = if length cs == 0 then c == 49 else if c == 48 then is_padded cs else false

abbrev pub style_of : List ℕ → Style
style_of token =
    if length token == 1 then letter_style (get_or token 0 0) else if is_padded token then Decimal (length token) else Decimal 1

-- the bytes that are no letters and digits, and what follows bytes of a kind at the front of a text
abbrev pub is_separator : ℕ → Bool
is_separator b = not (is_ascii_alphanumeric b)

abbrev pub rest_of : (ℕ → Bool) → List ℕ → List ℕ
rest_of test bs = drop (prefix_len test bs) bs

-- no letter or digit is at the front
abbrev pub is_apart : List ℕ → Bool
is_apart [] = true
is_apart (b ∷ bs) = is_separator b
