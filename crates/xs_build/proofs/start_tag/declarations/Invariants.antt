use Rattle.std.proofs.Common.{◌≡◌, ◌++◌, length}
use Rattle.xs_pyx.specs.Row.{rows_of}
use Rattle.xs_build.specs.Start.{declarations}
use Rattle.xs_build.specs.steps.Views.{bindings_of}
use Rattle.xs_build.proofs.start_tag.declarations.Given as goal

-- what was declared so far, and what the lines that are left declare
abbrev pub invariant-loop-rest : goal.invariant-loop-rest
invariant-loop-rest l = bindings_of l.declared ++ declarations (rows_of l.rest) ≡ declarations (rows_of l.fn.bytes)

abbrev pub decreases-loop-rest : goal.decreases-loop-rest
decreases-loop-rest l = length l.rest
