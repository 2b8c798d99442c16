-- The name of an element or an attribute.
use Rattle.std.specs.Prelude.{ℕ, List}

-- the URI of its namespace, its local part, and its prefix; a text that there is not is empty
pub record Label : Type 0 where
  pub uri : List ℕ
  pub local : List ℕ
  pub prefix : List ℕ
