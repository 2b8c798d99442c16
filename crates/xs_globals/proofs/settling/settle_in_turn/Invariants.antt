use Rattle.std.proofs.Common.{[], length}
use Rattle.xs_body_spec.specs.Globals.{AllSettle, Settled}
use Rattle.xs_globals.specs.steps.Settling.{IsGoing, IsFlagged, table_of}
use Rattle.xs_globals.proofs.settling.settle_in_turn.Given as goal

-- what comes of the globals that are left comes of all of them
abbrev pub invariant-loop-global : goal.invariant-loop-global
invariant-loop-global g l =
    ((r : Settled) → AllSettle l.world l.budget l.left (table_of l.table) r → AllSettle l.world l.budget l.order (table_of l.fn.table) r)
    × (IsGoing l.world l.budget l.table.begun.items (table_of l.table) × IsFlagged l.table.begun.items [] l.table.values.items)

abbrev pub decreases-loop-global : goal.decreases-loop-global
decreases-loop-global g l = length l.left
