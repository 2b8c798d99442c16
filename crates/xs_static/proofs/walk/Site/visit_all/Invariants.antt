use Rattle.std.proofs.Common.{◌≡◌}
use Rattle.xs_static.specs.steps.Found.{nodes_faults}
use Rattle.xs_static.specs.steps.Least.{least_of}
use Rattle.xs_static.specs.steps.Locals.{AreLocals}
use Rattle.xs_static.proofs.walk.Site.visit_all.Given as goal

-- the bindings and the faults of the nodes that were visited
abbrev pub invariant-loop-place : goal.invariant-loop-place
invariant-loop-place l = record {
  locals : AreLocals l.self.tree.now l.place l.locals;
  faults : l.least.fault ≡ least_of l.initial.least.fault (nodes_faults l.self.«number» l.self.tree.now l.self.lines.now l.self.names.now l.place);
}
