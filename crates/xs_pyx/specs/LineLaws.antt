-- Laws of lines: the relations of Lines and the functions of Row and Reading, which the crates above speak of, say the same.
use Rattle.std.specs.Prelude.{◌≡◌, ℕ, ◌↔◌, List, map}
use Rattle.xs_pyx.specs.declared.line.Line.{Line}
use Rattle.xs_pyx.specs.Row.{Row, rows_of}
use Rattle.xs_pyx.specs.Reading.{Reading, says, reading}
use Rattle.xs_pyx.specs.Lines.{AreLines, AreRows, Says}

-- bytes have the rows that `rows_of` gives, and no others
abbrev pub BytesAreCut : Type 0
BytesAreCut = (bytes : List ℕ) (rows : List Row) → AreRows bytes rows ↔ (rows_of bytes ≡ rows)

-- a row says what `reading` gives, and nothing else: so each row says exactly one thing
abbrev pub RowsAreRead : Type 0
RowsAreRead = (row : Row) (said : Reading) → Says row said ↔ (reading row ≡ said)

-- bytes are these lines exactly where their rows say them one by one
abbrev pub DocumentsAreRead : Type 0
DocumentsAreRead = (bytes : List ℕ) (lines : List Line) → AreLines bytes lines ↔ (map reading (rows_of bytes) ≡ map (λ line. says line) lines)
