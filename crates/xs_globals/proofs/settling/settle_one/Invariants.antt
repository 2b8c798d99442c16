use Rattle.std.proofs.Common.{◌+◌, ◌*◌, length, reverse}
use Rattle.xs_globals.specs.steps.Settling.{IsUnderWay, left_over, table_of}
use Rattle.xs_globals.proofs.settling.settle_one.Given as goal

-- what comes of those under attempt comes of the first of them
abbrev pub invariant-loop-top : goal.invariant-loop-top
invariant-loop-top g l = IsUnderWay l.world l.budget l.global (table_of l.fn.table) l.table.begun.items (reverse l.waiting.items) (table_of l.table)

-- one more is flagged, or one under attempt less
abbrev pub decreases-loop-top : goal.decreases-loop-top
decreases-loop-top g l = 2 * left_over l.table.begun.items + length l.waiting.items
