use Rattle.std.proofs.Common.{◌≡◌, ◌++◌, length, map}
use Rattle.xs_block.specs.Chain.{items_of}
use Rattle.xs_block.specs.steps.Blocks.{block_of}
use Rattle.xs_block.proofs.items.ItemsIterator.next.Given as goal

abbrev pub invariant-loop-item : goal.invariant-loop-item
invariant-loop-item g l =
    l.self-inside.block.now ++ items_of (map block_of l.self-inside.blocks)
    ≡ l.initial.self-inside.block.now ++ items_of (map block_of l.initial.self-inside.blocks)

abbrev pub decreases-loop-item : goal.decreases-loop-item
decreases-loop-item g l = length l.self-inside.blocks
