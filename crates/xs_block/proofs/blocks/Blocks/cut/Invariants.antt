use Rattle.std.proofs.Common.{◌≡◌, ◌+◌, ◌++◌, length}
use Rattle.xs_block.specs.Chain.{blocks_of, cut}
use Rattle.xs_block.proofs.blocks.Blocks.cut.Given as goal

abbrev pub invariant-loop-left : goal.invariant-loop-left
invariant-loop-left g l = (l.kept ++ cut l.left l.self ≡ cut l.n l.initial.self)
    × ((length l.kept + length l.self ≡ length l.initial.self) × (blocks_of l.kept + blocks_of l.self ≡ blocks_of l.initial.self))

abbrev pub decreases-loop-left : goal.decreases-loop-left
decreases-loop-left g l = length l.self
