-- The modules of a stylesheet, as a tree of mentions (XSLT 1.0, 2.6).
use Rattle.std.specs.Prelude.{ℕ, ◌+◌, List}
use Rattle.xs_tree.specs.Record.{Record}
use Rattle.xs_modules.specs.Mentions.{Mention}

-- The modules that some mentions name, one for each, in the order of the mentions: its nodes with the line of each, the modules
-- that it mentions itself, and then the modules of the other mentions. A module is read again at each mention.
pub data Mentioned : Type 0 where
  no_module : Mentioned
  one : Mention → List Record → List ℕ → (inside next : Mentioned) → Mentioned

-- how many modules they are, with those that they mention
unfoldable pub count : Mentioned → ℕ
count no_module = 0
count (one mention rs lines inside next) = 1 + count inside + count next
