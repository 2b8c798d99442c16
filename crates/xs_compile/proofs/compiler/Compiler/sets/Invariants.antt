use Rattle.std.proofs.Common.{filter, take}
use Rattle.std.specs.List.{AllZip}
use Rattle.xs_compile.specs.Declarations.{IsSet}
use Rattle.xs_structure.specs.Parts.{tag_at}
use Rattle.xs_elements.specs.Tags.{is_attribute_set}
use Rattle.xs_compile.specs.steps.State.{modules_of, source_of}
use Rattle.xs_compile.proofs.compiler.Compiler.sets.Given as goal

-- those of the declarations that were passed
abbrev pub invariant-loop-place : goal.invariant-loop-place
invariant-loop-place l = AllZip (IsSet (source_of l.self)) (filter (λ p. is_attribute_set (tag_at (modules_of l.self) p)) (take l.place-index l.declared))
    l.sets.items
