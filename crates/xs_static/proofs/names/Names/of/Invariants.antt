use Rattle.std.proofs.Common.{length}
use Rattle.xs_modules.specs.Results.{modules_data}
use Rattle.xs_static.proofs.DeclaredLemmas.{SoFar}
use Rattle.xs_static.proofs.names.Names.of.Given as goal

abbrev pub invariant-loop-place : goal.invariant-loop-place
invariant-loop-place l = SoFar (modules_data l.modules) l.declared l.initial.least.fault l.least.fault l.names l.rest

abbrev pub decreases-loop-place : goal.decreases-loop-place
decreases-loop-place l = length l.rest
