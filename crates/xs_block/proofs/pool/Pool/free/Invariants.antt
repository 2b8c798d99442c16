use Rattle.std.proofs.Common.{◌≡◌, length}
use Rattle.xs_block.specs.Chain.{blocks_of, with_free}
use Rattle.xs_block.proofs.pool.Pool.free.Given as goal

abbrev pub invariant-loop-blocks : goal.invariant-loop-blocks
invariant-loop-blocks g l = with_free l.self (blocks_of l.blocks) ≡ with_free l.initial.self (blocks_of l.initial.blocks)

abbrev pub decreases-loop-blocks : goal.decreases-loop-blocks
decreases-loop-blocks g l = length l.blocks
