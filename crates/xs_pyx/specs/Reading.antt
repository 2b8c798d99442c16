-- What one line says, as a function of its bytes, for the crates above. By its first byte a line is the start of an element, an
-- attribute, a text, the end of an element, a processing instruction or a comment. A line that says nothing has a fault: BadUtf8,
-- BadLine, BadEscape or NoFinalLineFeed, of which the first in this order counts. `Lines` has the same by rules, and `LineLaws`
-- says that both agree.
use Rattle.std.specs.Prelude.{ℕ, List, [], ◌∷◌, Bool, ◌==◌, ◌||◌, if◌then◌else◌, is_some, unwrap_or}
use Rattle.std.specs.List.{before_first, after_first}
use Rattle.std.specs.Str.{is_utf8}
use Rattle.xs_text.specs.Escapes.{unescaped}
use Rattle.xs_pyx.specs.declared.line.Line.{Line}
use Rattle.xs_pyx.specs.declared.line.Line.TheVariants.{Start, Attr, Chars, End, Pi, Comment}
use Rattle.xs_pyx.specs.declared.fault.Fault.TheVariants.{BadLine, BadEscape, BadUtf8, NoFinalLineFeed}
use Rattle.xs_pyx.specs.Faults.{number_of}
use Rattle.xs_pyx.specs.FirstBytes.{start_byte, attribute_byte, text_byte, end_byte, instruction_byte, comment_byte, space}
use Rattle.xs_pyx.specs.Row.{Row}

pub data Reading : Type 0 where
  says : Line → Reading
  faulty : ℕ → Reading

abbrev pub ends_name : ℕ → Bool
ends_name b = b == space

-- The first space ends the name of an attribute, or the target of a processing instruction; without a space the rest is empty.
abbrev pub name_in : List ℕ → List ℕ
name_in rest = before_first ends_name rest

abbrev pub value_in : List ℕ → List ℕ
value_in rest = after_first ends_name rest

-- the data that a written text represents, where each backslash of it begins a pair
abbrev pub data_of : List ℕ → List ℕ
data_of written = unwrap_or (unescaped written) []

-- `(`, `A`, `-`, `)`, `?` and `C`
abbrev pub begins_line : ℕ → Bool
begins_line kind =
    kind == start_byte || kind == attribute_byte || kind == text_byte || kind == end_byte || kind == instruction_byte || kind == comment_byte

-- what a line with this first byte and this rest says; names are as they are written
abbrev pub line_of : ℕ → List ℕ → Line
line_of kind rest =
    if kind == start_byte then Start rest
    else if kind == attribute_byte then Attr (name_in rest) (data_of (value_in rest))
    else if kind == text_byte then Chars (data_of rest)
    else if kind == end_byte then End rest
    else if kind == instruction_byte then Pi (name_in rest) (data_of (value_in rest))
    else Comment (data_of rest)

-- NoFinalLineFeed where no line feed ends the line
abbrev pub ended_reading : Line → Bool → Reading
ended_reading line ended = if ended then says line else faulty (number_of NoFinalLineFeed)

-- BadEscape where a backslash of the rest begins no pair
abbrev pub rest_reading : ℕ → List ℕ → Bool → Reading
rest_reading kind rest ended = if is_some (unescaped rest) then ended_reading (line_of kind rest) ended else faulty (number_of BadEscape)

-- BadLine for an empty line and an unknown first byte
abbrev pub kind_reading : List ℕ → Bool → Reading
kind_reading [] ended = faulty (number_of BadLine)
kind_reading (kind ∷ rest) ended = if begins_line kind then rest_reading kind rest ended else faulty (number_of BadLine)

-- what a line by itself says; BadUtf8 where it is no UTF-8
unfoldable pub reading : Row → Reading
reading row = if is_utf8 row.bytes then kind_reading row.bytes row.ended else faulty (number_of BadUtf8)
