-- The limit on the bytes of a document. That on its nodes is xs_tree's.
use Rattle.std.specs.Prelude.{ℕ}

-- the greatest limit on the bytes of a document
abbrev pub most_bytes : ℕ
most_bytes = 268435456
