-- The text of a list of numbers (XSLT 1.0, 7.7.1).
use Rattle.std.specs.Prelude.{◌≡◌, ℕ, ◌<◌, ◌==◌, Bool, true, List, [], ◌∷◌, ◌++◌, length, codes, Option, None, Some, pos, negsuc, if◌then◌else◌}
use Rattle.std.specs.Str.{chars}
use Rattle.xs_num.specs.Text.{text_of}
use Rattle.xs_num.specs.declared.number.Number.{Number}
use Rattle.xs_num.specs.declared.number.Number.TheVariants.{Whole, NaN}
use Rattle.xs_numbering.specs.Formats.{Piece, pieces, prefix, without_prefix, first_token, after_token, following, suffix, style_of}
use Rattle.xs_numbering.specs.Numerals.{styled}

-- groups are made where the separator is one character (this project's own)
abbrev pub group_of : Option (List ℕ × ℕ) → Option (List ℕ × ℕ)
group_of None = None
group_of (Some group) = if length (chars group.0) == 1 then Some group else None

-- the text of a number, which is `0` for 0 whatever the token (this project's own)
unfoldable pub number_text : Option (List ℕ × ℕ) → (token : List ℕ) → ℕ → List ℕ
number_text group token n = if n == 0 then codes "0" else styled group (style_of token) n

-- The numbers after the first one, each with the separator before it: by pairs of a separator and a token, and, where no pair is left,
-- by the last pair.
abbrev pub others_text : Option (List ℕ × ℕ) → List (List ℕ × List ℕ) → (last : List ℕ × List ℕ) → List ℕ → List ℕ
others_text group pairs last [] = []
others_text group [] last (n ∷ ns) = last.0 ++ (number_text group last.1 n ++ others_text group [] last ns)
others_text group (pair ∷ pairs) last (n ∷ ns) = pair.0 ++ (number_text group pair.1 n ++ others_text group pairs pair ns)

-- The numbers, and what comes after the last token. Where the first token is used again, `.` is before it.
abbrev pub numbers_text : Option (List ℕ × ℕ) → List Piece → ℕ → List ℕ → List ℕ
numbers_text group ps n ns =
    number_text group (first_token ps) n
    ++ (others_text group (following (after_token ps)) (codes ".", first_token ps) ns ++ suffix (after_token ps))

-- The text of a list of numbers under a format. That of an empty list is empty (this project's own).
unfoldable pub list_text : Option (List ℕ × ℕ) → (format : List ℕ) → List ℕ → List ℕ
list_text group format [] = []
list_text group format (n ∷ ns) = prefix (pieces format) ++ numbers_text (group_of group) (without_prefix (pieces format)) n ns

-- a text in the place of a number
abbrev pub text_alone : (format text : List ℕ) → List ℕ
text_alone format text = prefix (pieces format) ++ (text ++ suffix (after_token (without_prefix (pieces format))))

-- The text of a number that is given by `value`: that of a list of it alone. One below 0 and NaN are written as `string` writes them,
-- whatever the token (this project's own).
abbrev pub value_text : Option (List ℕ × ℕ) → (format : List ℕ) → Number → List ℕ
value_text group format (Whole (pos n)) = list_text group format (n ∷ [])
value_text group format (Whole (negsuc n)) = text_alone format (text_of (Whole (negsuc n)))
value_text group format NaN = text_alone format (text_of NaN)
