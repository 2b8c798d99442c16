-- What the calls of this crate answer, against what the bytes say.
use Rattle.std.specs.Prelude.{◌≡◌, ℕ, ◌+◌, ◌<◌, ◌≤◌, List, [], ◌∷◌, ◌++◌, Option, None, Some, Result, Ok, Err, length, drop}
use Rattle.std.specs.Str.{IsUtf8}
use Rattle.xs_pyx.specs.declared.line.Line.{Line}
use Rattle.xs_pyx.specs.declared.line.LineFault.{LineFault}
use Rattle.xs_pyx.specs.declared.line.LineFault.TheVariants.{Bad, NoMemory}
use Rattle.xs_pyx.specs.FirstBytes.{line_feed}
use Rattle.xs_pyx.specs.Row.{Row, first_row, behind_row}
use Rattle.xs_pyx.specs.Reading.{Reading, says, faulty, reading}
use Rattle.xs_pyx.specs.Lines.{HasNo, IsLine, AreRows, HasFault}

-- a line was found that takes so many bytes
pub record TakesLine (bytes : List ℕ) (line : Line) (taken : ℕ) : Type 0 where
  pub some : 0 < taken
  pub within : taken ≤ length bytes
  pub says : reading (first_row bytes) ≡ says line
  pub behind : drop taken bytes ≡ behind_row bytes

-- the first line says nothing
pub record IsFaulty (bytes : List ℕ) (number : ℕ) : Type 0 where
  pub some : 0 < length bytes
  pub faulty : reading (first_row bytes) ≡ faulty number

-- There is no line exactly where there are no bytes; else the first line is what its bytes say, or has the fault that they have.
-- Memory may run out.
abbrev pub Reads : Result (Option (Line × ℕ)) LineFault → List ℕ → Type 0
Reads (Ok None) bytes = bytes ≡ []
Reads (Ok (Some found)) bytes = TakesLine bytes found.0 found.1
Reads (Err (Bad number)) bytes = IsFaulty bytes number
Reads (Err NoMemory) bytes = Unit {0}

-- The bytes begin with a line and its line feed, which is the last byte that is taken.
pub record FindsLine (bytes : List ℕ) (line : Line) (taken : ℕ) : Type 0 where
  pub row : List ℕ
  pub behind : List ℕ
  pub whole : bytes ≡ row ++ line_feed ∷ behind
  pub one_line : HasNo line_feed row
  pub utf8 : IsUtf8 row
  pub is_line : IsLine row line
  pub count : taken ≡ length row + 1

-- the first row of the bytes has this fault
pub record FindsFault (bytes : List ℕ) (number : ℕ) : Type 0 where
  pub row : Row
  pub behind : List Row
  pub rows : AreRows bytes (row ∷ behind)
  pub fault : HasFault row number

-- The same by the relation between bytes and whole lines. Memory runs out only where there is a line.
abbrev pub Finds : Result (Option (Line × ℕ)) LineFault → List ℕ → Type 0
Finds (Ok None) bytes = bytes ≡ []
Finds (Ok (Some found)) bytes = FindsLine bytes found.0 found.1
Finds (Err (Bad number)) bytes = FindsFault bytes number
Finds (Err NoMemory) bytes = (line : Line) × (taken : ℕ) × FindsLine bytes line taken

-- the line has no fault
abbrev pub SaysLine : Reading → Type 0
SaysLine said = (line : Line) × (said ≡ says line)
