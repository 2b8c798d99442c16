use Rattle.std.proofs.Common.{length, ◌+◌}
use Rattle.xs_record.specs.Outcome.{part_blocks}
use Rattle.xs_record.proofs.BlockLemmas.{Gives}
use Rattle.xs_record.proofs.outcome.free_parts.Given as goal

abbrev pub invariant-loop-part : goal.invariant-loop-part
invariant-loop-part l = Gives (part_blocks l.fn.parts.items + l.fn.pool) (part_blocks l.parts.items + l.pool)

abbrev pub decreases-loop-part : goal.decreases-loop-part
decreases-loop-part l = length l.parts.items
