-- What the code does to a list of blocks.
use Rattle.std.specs.Prelude.{◌==◌, not, List, [], ◌∷◌, ◌++◌}
use Rattle.std.specs.Prelude.{Vec}
use Rattle.std.specs.Vec.{vec_items, vec_capacity}
use Rattle.xs_block.specs.Chain.{Block}

-- what a vector holds, as a block: one with other room than 64 is sealed
abbrev pub block_of : {X A : Type 0} → Vec X A → Block X
block_of v = record { items = vec_items v; is_sealed = not (vec_capacity v == 64) }

module _ {X : Type 0} where
  -- a block with one more item
  abbrev pub with_item : X → Block X → Block X
  with_item x block = record { items = block.items ++ x ∷ []; is_sealed = block.is_sealed }

  -- the blocks with one more item in the last one
  abbrev pub with_last : X → List (Block X) → List (Block X)
  with_last x [] = []
  with_last x (block ∷ []) = with_item x block ∷ []
  with_last x (block ∷ next ∷ rest) = block ∷ with_last x (next ∷ rest)
