-- The bytes of a text.
use Rattle.std.specs.Prelude.{ℕ, List}
use Rattle.std.specs.String.{string_bytes}
use Rattle.xs_text.specs.declared.text.Block.{Block}
use Rattle.xs_text.specs.declared.text.Block.TheVariants.{Short, Long}

-- the bytes of a block
abbrev pub block_bytes : Block → List ℕ
block_bytes (Short text) = text
block_bytes (Long text) = string_bytes text
