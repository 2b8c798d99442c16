use Rattle.std.proofs.Common.{length}
use Rattle.xs_static.specs.steps.Locals.{AreLocals}
use Rattle.xs_static.proofs.locals.Locals.pass.Given as goal

abbrev pub invariant-loop-last : goal.invariant-loop-last
invariant-loop-last l = AreLocals l.tree l.n l.self

abbrev pub decreases-loop-last : goal.decreases-loop-last
decreases-loop-last l = length l.self.open.items
