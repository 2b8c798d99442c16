-- The escapes of PYX data. In a written text a backslash and a letter represent one byte, and every other
-- byte represents itself. No byte of a character past ASCII is one of these, so all is said of bytes.
use Rattle.std.specs.Prelude.{ℕ, ◌≡◌, ◌≢◌, ◌==◌, List, [], ◌∷◌, ◌++◌, Option, Some, None, if◌then◌else◌}
use Rattle.std.specs.List.{flat_map}

-- a byte, and the letter that it is written with after a backslash
pub record EscapePair : Type 0 where
  pub byte : ℕ
  pub letter : ℕ

-- line feed is `\n`, tab is `\t`, carriage return is `\r`, and backslash is `\\`
abbrev pub escape_pairs : List EscapePair
escape_pairs =
    record { byte = 10; letter = 110 }
    ∷ record { byte = 9; letter = 116 }
    ∷ record { byte = 13; letter = 114 }
    ∷ record { byte = 92; letter = 92 }
    ∷ []

abbrev pub letter_in : List EscapePair → ℕ → Option ℕ
letter_in [] b = None
letter_in (p ∷ ps) b = if p.byte == b then Some p.letter else letter_in ps b

-- the letter that a byte is written with, if it is one of the four
abbrev pub letter_of : ℕ → Option ℕ
letter_of b = letter_in escape_pairs b

abbrev pub written_by : Option ℕ → ℕ → List ℕ
written_by None b = b ∷ []
written_by (Some l) b = 92 ∷ l ∷ []

-- how one byte is written: as a pair if it is one of the four, and else as itself
abbrev pub escaped_byte : ℕ → List ℕ
escaped_byte b = written_by (letter_of b) b

-- how a text is written: its bytes, each as it is written, one after the other
unfoldable pub escaped : List ℕ → List ℕ
escaped text = flat_map escaped_byte text

abbrev pub byte_in : List EscapePair → ℕ → Option ℕ
byte_in [] l = None
byte_in (p ∷ ps) l = if p.letter == l then Some p.byte else byte_in ps l

-- the byte that a letter represents after a backslash, if it is one of the four letters
abbrev pub byte_of : ℕ → Option ℕ
byte_of l = byte_in escape_pairs l

abbrev pub first_and_rest : Option ℕ → Option (List ℕ) → Option (List ℕ)
first_and_rest None rest = None
first_and_rest (Some b) None = None
first_and_rest (Some b) (Some more) = Some (b ∷ more)

-- the data that a written text represents; None where a backslash begins no pair
unfoldable pub unescaped : List ℕ → Option (List ℕ)
unescaped [] = Some []
unescaped (b ∷ []) = if b == 92 then None else Some (b ∷ [])
unescaped (b ∷ l ∷ rest) =
    if b == 92 then first_and_rest (byte_of l) (unescaped rest) else first_and_rest (Some b) (unescaped (l ∷ rest))

-- data after a front, if there is data
abbrev pub behind : List ℕ → Option (List ℕ) → Option (List ℕ)
behind front None = None
behind front (Some more) = Some (front ++ more)

-- The same by rules: a written text represents data. A byte other than a backslash represents itself, and a
-- backslash and one of the four letters for the letter's byte.
pub data Represents : List ℕ → List ℕ → Type 0 where
  nothing : Represents [] []
  itself : (b : ℕ) (written read : List ℕ) → b ≢ 92 → Represents written read → Represents (b ∷ written) (b ∷ read)
  pair : (l b : ℕ) (written read : List ℕ) → byte_of l ≡ Some b → Represents written read → Represents (92 ∷ l ∷ written) (b ∷ read)
