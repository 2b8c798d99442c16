use Rattle.std.proofs.Common.{◌<◌, length}
use Rattle.xs_compile.proofs.LookupLemmas.{Around, NoneFrom}
use Rattle.xs_compile.proofs.slots.Locals.slot_at.Given as goal

-- no visible binding of the name stands further in
abbrev pub invariant-loop-parent : goal.invariant-loop-parent
invariant-loop-parent l = record {
  within : l.inside < length l.tree;
  around : Around l.tree l.inside l.n;
  none : NoneFrom l.tree l.uri l.local l.n l.inside;
}

abbrev pub decreases-loop-parent : goal.decreases-loop-parent
decreases-loop-parent l = l.inside
