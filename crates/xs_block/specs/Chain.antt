-- A chain as the list of its blocks.
use Rattle.std.specs.Prelude.{ℕ, zero, suc, ◌+◌, ◌-◌, ◌*◌, ◌^◌, ◌==◌, min, Bool, false, true, if◌then◌else◌, List, [], ◌∷◌, length, take}
use Rattle.std.specs.List.{flat_map}

-- the most blocks that a chain or a pool has; no memory holds as many
abbrev pub most_blocks : ℕ
most_blocks = 2 ^ 63 - 1

-- the free blocks with some more, as many as can be
abbrev pub with_free : ℕ → ℕ → ℕ
with_free free more = free + min more (most_blocks - free)

-- A block: its items, in room for 64. A sealed one is in room of its own, and no pool has it.
pub record Block (X : Type 0) : Type 0 where
  pub items : List X
  pub is_sealed : Bool

module _ {X : Type 0} where
  -- a block of a pool with these items
  abbrev pub unsealed : List X → Block X
  unsealed items = record { items = items; is_sealed = false }

  -- its items, in order
  abbrev pub items_of : List (Block X) → List X
  items_of chain = flat_map (λ block. block.items) chain

  -- how many of its blocks are of a pool
  abbrev pub blocks_of : List (Block X) → ℕ
  blocks_of [] = 0
  blocks_of (block ∷ rest) = (if block.is_sealed then 0 else 1) + blocks_of rest

  -- the free slots of a block
  abbrev pub block_slots : Block X → ℕ
  block_slots block = if block.is_sealed then 0 else 64 - length block.items

  -- the free slots of its last block
  abbrev pub slots_of : List (Block X) → ℕ
  slots_of [] = 0
  slots_of (block ∷ []) = block_slots block
  slots_of (_ ∷ next ∷ rest) = slots_of (next ∷ rest)

  -- how many items can be pushed with so many free blocks
  abbrev pub spare_of : ℕ → List (Block X) → ℕ
  spare_of free chain = 64 * min free (most_blocks - length chain) + slots_of chain

  -- the first n items of a block
  abbrev pub front : ℕ → Block X → Block X
  front n block = record { items = take n block.items; is_sealed = block.is_sealed }

  -- its first n items, in the blocks that they are in
  abbrev pub cut : ℕ → List (Block X) → List (Block X)
  cut zero chain = []
  cut (suc n) [] = []
  cut (suc n) (block ∷ rest) = front (suc n) block ∷ cut (suc n - length block.items) rest

  -- a block that is sealed; one without free slots stays as it is
  abbrev pub sealed_block : Block X → Block X
  sealed_block block = if block_slots block == 0 then block else record { items = block.items; is_sealed = true }

  -- the same chain, after its last block was sealed
  abbrev pub sealed : List (Block X) → List (Block X)
  sealed [] = []
  sealed (block ∷ []) = sealed_block block ∷ []
  sealed (block ∷ next ∷ rest) = block ∷ sealed (next ∷ rest)
