-- The bytes of an event's text.
use Rattle.std.specs.Prelude.{ℕ, List}
use Rattle.xs_text.specs.declared.characters.Held.{Held}
use Rattle.xs_text.specs.declared.characters.Held.TheVariants.{Short, Shared}

-- wherever they lie
abbrev pub held_bytes : Held → List ℕ
held_bytes (Short text) = text
held_bytes (Shared text) = text
