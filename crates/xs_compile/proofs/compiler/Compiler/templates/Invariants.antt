use Rattle.std.proofs.Common.{filter, take}
use Rattle.std.specs.List.{AllZip}
use Rattle.xs_structure.specs.Order.{is_template_place}
use Rattle.xs_compile.specs.Declarations.{IsTemplate}
use Rattle.xs_compile.specs.steps.State.{modules_of, source_of}
use Rattle.xs_compile.proofs.compiler.Compiler.templates.Given as goal

-- those of the declarations that were passed
abbrev pub invariant-loop-place : goal.invariant-loop-place
invariant-loop-place l = AllZip (IsTemplate (source_of l.self)) (filter (is_template_place (modules_of l.self)) (take l.place-index l.declared))
    l.templates.items
