use Rattle.xs_compile.specs.steps.Locals.{AreCounts}
use Rattle.xs_compile.specs.Locals.{AreLocals}
use Rattle.xs_compile.proofs.slots.Locals.of.Given as goal

-- the tables are those of the nodes that were passed
abbrev pub invariant-loop-place : goal.invariant-loop-place
invariant-loop-place l = record {
  locals : AreLocals l.tree l.place l.locals;
  counts : AreCounts l.tree l.place l.counts.items;
}
