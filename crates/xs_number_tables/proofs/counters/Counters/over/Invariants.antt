use Rattle.xs_number_tables.specs.Tables.{AreCounters}
use Rattle.xs_number_tables.proofs.counters.Counters.over.Given as goal

-- the counters so far are those of their declarations
abbrev pub invariant-loop-counting : goal.invariant-loop-counting
invariant-loop-counting g l = AreCounters (g.K.KeyFinder.tables l.keys) l.tree l.counters
