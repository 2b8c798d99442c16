use Rattle.std.proofs.Common.{take}
use Rattle.std.specs.List.{AllZip}
use Rattle.xs_compile.specs.steps.Tables.{HasLocals}
use Rattle.xs_modules.specs.Results.{modules_data}
use Rattle.xs_compile.proofs.compiler.all_locals.Given as goal

-- those of the modules that were passed
abbrev pub invariant-loop-number : goal.invariant-loop-number
invariant-loop-number l = AllZip HasLocals (take l.«number» (modules_data l.modules)) l.all.items
