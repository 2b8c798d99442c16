use Rattle.std.proofs.Common.{◌≡◌, ◌++◌, length}
use Rattle.std.specs.Vec.Iter.{into_iter_items}
use Rattle.xs_block.specs.Chain.{items_of}
use Rattle.xs_block.proofs.items.IntoItemsIterator.next.Given as goal

abbrev pub invariant-loop-item : goal.invariant-loop-item
invariant-loop-item g l =
    into_iter_items l.self-inside.block ++ items_of l.self-inside.blocks
    ≡ into_iter_items l.initial.self-inside.block ++ items_of l.initial.self-inside.blocks

abbrev pub decreases-loop-item : goal.decreases-loop-item
decreases-loop-item g l = length l.self-inside.blocks
