-- What one read adds to the bytes that were read.
use Rattle.std.specs.Prelude.{◌≡◌, ℕ, List, ◌++◌, length, Option}
use Rattle.std.specs.Io.KnownBytes.{Consumes, IsAtEnd}

-- a piece of n bytes came from the reader to the end of the bytes; an empty one comes only at its end
pub record GainsPiece (left left_after : Option (List ℕ)) (bytes bytes_after : List ℕ) (n : ℕ) : Type 0 where
  pub piece : List ℕ
  pub size : length piece ≡ n
  pub gained : bytes_after ≡ bytes ++ piece
  pub consumed : Consumes left left_after piece
  pub at_end : n ≡ 0 → IsAtEnd left_after
