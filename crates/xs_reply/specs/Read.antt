-- What the bytes of a file represent.
use Rattle.std.specs.Prelude.{ℕ, Result, Ok, Err}
use Rattle.xs_reply.specs.declared.reading.BadDocument.{BadDocument}

-- what was read; or the number of a fault, and the line that has it
pub data Read (A : Type 0) : Type 0 where
  read : A → Read A
  bad : ℕ → ℕ → Read A

-- what a result says of a file, by what its value represents
abbrev pub read_as : {A B : Type 0} → (A → B) → Result A BadDocument → Read B
read_as f (Ok x) = read (f x)
read_as f (Err fault) = bad fault.number fault.line
