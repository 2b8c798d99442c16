use Rattle.std.proofs.Common.{take}
use Rattle.std.specs.List.{AllZip}
use Rattle.xs_compile.specs.Declarations.{IsInstr}
use Rattle.xs_compile.specs.steps.State.{source_of}
use Rattle.xs_compile.proofs.compiler.Compiler.set_attributes.Given as goal

-- those of the places that were passed
abbrev pub invariant-loop-place : goal.invariant-loop-place
invariant-loop-place l = AllZip (IsInstr (source_of l.self)) (take l.place-index l.place-items) l.attributes.items
