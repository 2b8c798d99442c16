use Rattle.std.proofs.Common.{◌≡◌, ◌++◌}
use Rattle.xs_core.specs.Machine.{idle}
use Rattle.xs_core.proofs.parts.add_idle.Given as goal

abbrev pub invariant-loop-other : goal.invariant-loop-other
invariant-loop-other l = l.seats.items ≡ l.initial.seats.items ++ idle l._other
