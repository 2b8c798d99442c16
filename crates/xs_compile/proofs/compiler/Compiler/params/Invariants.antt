use Rattle.std.proofs.Common.{take}
use Rattle.std.specs.List.{AllZip}
use Rattle.xs_compile.specs.Declarations.{IsBinding}
use Rattle.xs_compile.specs.steps.State.{source_of}
use Rattle.xs_compile.proofs.compiler.Compiler.params.Given as goal

-- those of the places that were passed
abbrev pub invariant-loop-place : goal.invariant-loop-place
invariant-loop-place l = AllZip (IsBinding (source_of l.self)) (take l.place-index l.place-items) l.params.items
