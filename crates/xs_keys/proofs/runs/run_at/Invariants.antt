use Rattle.std.proofs.Common.{length}
use Rattle.xs_keys.specs.steps.Pairs.{IsBetween, bound, decls_in}
use Rattle.xs_keys.proofs.runs.run_at.Given as goal

-- what was gathered up to a place
abbrev pub invariant-loop-place : goal.invariant-loop-place
invariant-loop-place l = IsBetween l.tree (decls_in l.members) (bound l.size (length l.tree) l.i) l.place l.gathered
