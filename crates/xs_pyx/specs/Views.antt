-- Lines that borrow their texts, and the lines that they are.
use Rattle.std.specs.Prelude.{◌≡◌, ℕ, ◌≤◌, ◌==◌, ◌&&◌, Bool, true, false, not, List, Option, None, Some, Result, Ok, Err, IsSome, length}
use Rattle.std.specs.List.{list_any}
use Rattle.std.specs.Str.{IsCharBoundary}
use Rattle.xs_text.specs.Escapes.{unescaped}
use Rattle.xs_pyx.specs.declared.line.Line.{Line}
use Rattle.xs_pyx.specs.declared.line.Line.TheVariants as line
use Rattle.xs_pyx.specs.declared.line.LineFault.{LineFault}
use Rattle.xs_pyx.specs.declared.line.LineFault.TheVariants.{Bad}
use Rattle.xs_pyx.specs.declared.fault.Fault.{Fault}
use Rattle.xs_pyx.specs.declared.rest.Rest.{Rest}
use Rattle.xs_pyx.specs.declared.rest.Rest.TheVariants.{Text, Bytes}
use Rattle.xs_pyx.specs.declared.view.Data.{Data}
use Rattle.xs_pyx.specs.declared.view.Data.TheVariants.{Plain, Escaped}
use Rattle.xs_pyx.specs.declared.view.LineView.{LineView}
use Rattle.xs_pyx.specs.declared.view.LineView.TheVariants.{Start, Attr, Chars, End, Pi, Comment}
use Rattle.xs_pyx.specs.Faults.{number_of}
use Rattle.xs_pyx.specs.Reading.{Reading, says, faulty, data_of, reading}
use Rattle.xs_pyx.specs.Row.{first_row}

-- whether a backslash stands in a text
abbrev pub has_backslash : List ℕ → Bool
has_backslash text = list_any (λ b. b == 92) text

-- the data that is shown
abbrev pub data_shown : Data → List ℕ
data_shown (Plain text) = text.now
data_shown (Escaped written) = data_of written.now

-- the line that is shown
abbrev pub line_shown : LineView → Line
line_shown (Start name) = line.Start name.now
line_shown (Attr name value) = line.Attr name.now (data_shown value)
line_shown (Chars text) = line.Chars (data_shown text)
line_shown (End name) = line.End name.now
line_shown (Pi target value) = line.Pi target.now (data_shown value)
line_shown (Comment text) = line.Comment (data_shown text)

-- each backslash of what is written begins a pair
abbrev pub IsReadableData : Data → Type 0
IsReadableData (Plain text) = Unit {0}
IsReadableData (Escaped written) = IsSome (unescaped written.now)

abbrev pub IsReadable : LineView → Type 0
IsReadable (Start name) = Unit {0}
IsReadable (Attr name value) = IsReadableData value
IsReadable (Chars text) = IsReadableData text
IsReadable (End name) = Unit {0}
IsReadable (Pi target value) = IsReadableData value
IsReadable (Comment text) = IsReadableData text

-- an answer that borrows as the answer that it is
abbrev pub reported : Result (Option (LineView × ℕ)) Fault → Result (Option (Line × ℕ)) LineFault
reported (Ok None) = Ok None
reported (Ok (Some found)) = Ok (Some (line_shown found.0, found.1))
reported (Err fault) = Err (Bad (number_of fault))

-- the line, if there is one, can be read in full
abbrev pub HasReadable : Result (Option (LineView × ℕ)) Fault → Type 0
HasReadable (Ok None) = Unit {0}
HasReadable (Ok (Some found)) = IsReadable found.0
HasReadable (Err fault) = Unit {0}

-- what the viewing of one line by itself answers
abbrev pub IsViewing : Result LineView Fault → Reading → Type 0
IsViewing (Ok view) said = (said ≡ says (line_shown view)) × IsReadable view
IsViewing (Err fault) said = said ≡ faulty (number_of fault)

-- the bytes that are left
abbrev pub bytes_left : Rest → List ℕ
bytes_left (Text text) = text.now
bytes_left (Bytes bytes) = bytes.now

-- whether a line has no fault
abbrev pub says_line : Reading → Bool
says_line (says line) = true
says_line (faulty number) = false

-- whether a text begins with a line that has no fault and no backslash
abbrev pub begins_plain : List ℕ → Bool
begins_plain text = says_line (reading (first_row text)) && not (has_backslash (first_row text).bytes)

-- whether what is left, where it is known to be UTF-8, begins with such a line
abbrev pub has_plain_line : Rest → Bool
has_plain_line (Text text) = begins_plain text.now
has_plain_line (Bytes bytes) = false

-- so many bytes can be cut off: a text is cut between two characters
abbrev pub CanCut : Rest → ℕ → Type 0
CanCut (Text text) taken = IsCharBoundary text.now taken
CanCut (Bytes bytes) taken = taken ≤ length bytes.now
