use Rattle.std.proofs.Common.{filter, take}
use Rattle.std.specs.List.{AllZip}
use Rattle.xs_compile.specs.Counted.{is_global}
use Rattle.xs_compile.specs.Declarations.{IsGlobal}
use Rattle.xs_compile.specs.steps.State.{modules_of, source_of}
use Rattle.xs_compile.proofs.compiler.Compiler.globals.Given as goal

-- those of the declarations that were passed
abbrev pub invariant-loop-place : goal.invariant-loop-place
invariant-loop-place l = AllZip (IsGlobal (source_of l.self)) (filter (is_global (modules_of l.self)) (take l.place-index l.declared)) l.globals.items
