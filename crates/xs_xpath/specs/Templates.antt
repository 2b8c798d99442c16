-- The parts of a value template (XSLT 1.0, 7.6.2).
use Rattle.std.specs.Prelude.{ℕ, List}
use Rattle.xs_xpath.specs.Tree.{Tree}

-- a part: fixed text, or an expression
pub data Part : Type 0 where
  text : List ℕ → Part
  computed : Tree → Part
