-- How a line is written, and which lines are read back.
use Rattle.std.specs.Prelude.{◌≡◌, ℕ, List, [], ◌∷◌, ◌++◌, Bool, false, ◌||◌, ◌==◌}
use Rattle.std.specs.List.{list_any}
use Rattle.std.specs.Str.{IsUtf8}
use Rattle.xs_text.specs.Escapes.{escaped}
use Rattle.xs_pyx.specs.declared.line.Line.{Line}
use Rattle.xs_pyx.specs.declared.line.Line.TheVariants.{Start, Attr, Chars, End, Pi, Comment}
use Rattle.xs_pyx.specs.FirstBytes.{start_byte, attribute_byte, text_byte, end_byte, instruction_byte, comment_byte, space, line_feed}
use Rattle.xs_pyx.specs.Row.{first_row, behind_row}
use Rattle.xs_pyx.specs.Reading.{says, reading}
use Rattle.xs_pyx.specs.Lines.{AreLines}

-- The bytes of a line: its first byte, a name as it is, a space after the name of an attribute and after a target, values and
-- texts with their escapes, and a line feed.
unfoldable pub written : Line → List ℕ
written (Start name) = start_byte ∷ name ++ line_feed ∷ []
written (Attr name value) = attribute_byte ∷ name ++ space ∷ escaped value ++ line_feed ∷ []
written (Chars text) = text_byte ∷ escaped text ++ line_feed ∷ []
written (End name) = end_byte ∷ name ++ line_feed ∷ []
written (Pi target value) = instruction_byte ∷ target ++ space ∷ escaped value ++ line_feed ∷ []
written (Comment text) = comment_byte ∷ escaped text ++ line_feed ∷ []

-- a space, a line feed or a backslash
abbrev pub breaks_name : ℕ → Bool
breaks_name b = b == space || b == line_feed || b == 92

-- a name without any of these
abbrev pub IsPlainName : List ℕ → Type 0
IsPlainName name = list_any breaks_name name ≡ false

abbrev pub IsPlain : Line → Type 0
IsPlain (Start name) = IsPlainName name
IsPlain (Attr name value) = IsPlainName name
IsPlain (Chars text) = Unit {0}
IsPlain (End name) = IsPlainName name
IsPlain (Pi target value) = IsPlainName target
IsPlain (Comment text) = Unit {0}

-- the names, values and texts of a line are UTF-8, as those of each line that a program has
abbrev pub HasTexts : Line → Type 0
HasTexts (Start name) = IsUtf8 name
HasTexts (Attr name value) = IsUtf8 name × IsUtf8 value
HasTexts (Chars text) = IsUtf8 text
HasTexts (End name) = IsUtf8 name
HasTexts (Pi target value) = IsUtf8 target × IsUtf8 value
HasTexts (Comment text) = IsUtf8 text

-- Whatever follows it, the written line is read as this line, and what follows it stands behind it.
pub record IsReadBack (line : Line) (more : List ℕ) : Type 0 where
  pub reads : reading (first_row (written line ++ more)) ≡ says line
  pub behind : behind_row (written line ++ more) ≡ more

-- before the bytes of lines, the written line makes the bytes of one line more
abbrev pub IsLineBefore : Line → Type 0
IsLineBefore line = (more : List ℕ) (lines : List Line) → AreLines more lines → AreLines (written line ++ more) (line ∷ lines)
