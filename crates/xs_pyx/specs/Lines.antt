-- What the lines of a document say, as a relation between bytes and whole lines. A line feed ends each line, the last one too.
-- A line's first byte says what it is: `(` and a name is the start of an element, `A` and a name, a space and a value an
-- attribute, `-` and a text that text, `)` and a name the end of an element, `?` and a target, a space and a text a processing
-- instruction, and `C` and a text a comment.
use Rattle.std.specs.Prelude.{◌≡◌, ℕ, ◌==◌, Bool, true, false, List, [], ◌∷◌, ◌++◌, codes}
use Rattle.std.specs.List.{list_any}
use Rattle.std.specs.Str.{IsUtf8}
use Rattle.xs_text.specs.Escapes.{Represents}
use Rattle.xs_pyx.specs.declared.line.Line.{Line}
use Rattle.xs_pyx.specs.declared.line.Line.TheVariants.{Start, Attr, Chars, End, Pi, Comment}
use Rattle.xs_pyx.specs.declared.fault.Fault.TheVariants.{BadLine, BadEscape, BadUtf8, NoFinalLineFeed}
use Rattle.xs_pyx.specs.Faults.{number_of}
use Rattle.xs_pyx.specs.FirstBytes.{start_byte, attribute_byte, text_byte, end_byte, instruction_byte, comment_byte, space, line_feed}
use Rattle.xs_pyx.specs.Row.{Row}
use Rattle.xs_pyx.specs.Reading.{Reading, says, faulty}

-- the byte does not stand in the bytes
abbrev pub HasNo : ℕ → List ℕ → Type 0
HasNo byte bytes = list_any (λ b. b == byte) bytes ≡ false

-- each backslash of a written text begins one of the four pairs, so that the text represents data
abbrev pub IsWellEscaped : List ℕ → Type 0
IsWellEscaped written = (text : List ℕ) × Represents written text

-- Bytes without their line feed are a line. A value and a text are the data that the bytes represent. A name is as it is written,
-- though its backslashes have to begin pairs too. The first space ends the name of an attribute and a target, and without a
-- space the value is empty.
pub data IsLine : List ℕ → Line → Type 0 where
  start : (name : List ℕ) → IsWellEscaped name → IsLine (start_byte ∷ name) (Start name)
  attribute : (name written value : List ℕ) → HasNo space name → IsWellEscaped name → Represents written value
      → IsLine (attribute_byte ∷ name ++ space ∷ written) (Attr name value)
  attribute_alone : (name : List ℕ) → HasNo space name → IsWellEscaped name → IsLine (attribute_byte ∷ name) (Attr name [])
  chars : (written text : List ℕ) → Represents written text → IsLine (text_byte ∷ written) (Chars text)
  end : (name : List ℕ) → IsWellEscaped name → IsLine (end_byte ∷ name) (End name)
  instruction : (target written value : List ℕ) → HasNo space target → IsWellEscaped target → Represents written value
      → IsLine (instruction_byte ∷ target ++ space ∷ written) (Pi target value)
  instruction_alone : (target : List ℕ) → HasNo space target → IsWellEscaped target → IsLine (instruction_byte ∷ target) (Pi target [])
  comment : (written text : List ℕ) → Represents written text → IsLine (comment_byte ∷ written) (Comment text)

-- bytes that are lines to their end
pub data AreLines : List ℕ → List Line → Type 0 where
  no_lines : AreLines [] []
  first_line : (bytes behind : List ℕ) (line : Line) (lines : List Line) → HasNo line_feed bytes → IsUtf8 bytes → IsLine bytes line → AreLines behind lines
      → AreLines (bytes ++ line_feed ∷ behind) (line ∷ lines)

-- bytes between line feeds, whether they are lines or not; behind the last line feed stands one more row, unless it is nothing
pub data AreRows : List ℕ → List Row → Type 0 where
  no_rows : AreRows [] []
  last_row : (b : ℕ) (bytes : List ℕ) → HasNo line_feed (b ∷ bytes) → AreRows (b ∷ bytes) (record { bytes = b ∷ bytes; ended = false } ∷ [])
  ended_row : (bytes behind : List ℕ) (rows : List Row) → HasNo line_feed bytes → AreRows behind rows
      → AreRows (bytes ++ line_feed ∷ behind) (record { bytes = bytes; ended = true } ∷ rows)

-- a byte that a line may begin with
abbrev pub is_line_kind : ℕ → Bool
is_line_kind kind = list_any (λ known. kind == known) (codes "(A-)?C")

-- The fault of a row that is no line. Of several faults the first one in the order BadUtf8, BadLine, BadEscape, NoFinalLineFeed
-- counts, so each rule says that the ones before it are not there.
pub data HasFault (given : Row) : ℕ → Type 0 where
  not_utf8 : ¬ IsUtf8 given.bytes → HasFault given (number_of BadUtf8)
  empty : given.bytes ≡ [] → HasFault given (number_of BadLine)
  unknown : (kind : ℕ) (rest : List ℕ) → given.bytes ≡ kind ∷ rest → IsUtf8 given.bytes → is_line_kind kind ≡ false → HasFault given (number_of BadLine)
  bad_escape : (kind : ℕ) (rest : List ℕ) → given.bytes ≡ kind ∷ rest → IsUtf8 given.bytes → is_line_kind kind ≡ true → ¬ IsWellEscaped rest
      → HasFault given (number_of BadEscape)
  no_line_feed : (line : Line) → given.ended ≡ false → IsUtf8 given.bytes → IsLine given.bytes line → HasFault given (number_of NoFinalLineFeed)

-- what a row says: a line, where a line feed ends it, or a fault
abbrev pub Says : Row → Reading → Type 0
Says row (says line) = (row.ended ≡ true) × IsUtf8 row.bytes × IsLine row.bytes line
Says row (faulty number) = HasFault row number
