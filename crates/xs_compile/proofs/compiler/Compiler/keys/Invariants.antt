use Rattle.std.proofs.Common.{filter, take}
use Rattle.std.specs.List.{AllZip}
use Rattle.xs_compile.specs.Declarations.{IsKey, is_key}
use Rattle.xs_structure.specs.Parts.{tag_at}
use Rattle.xs_compile.specs.steps.State.{modules_of, source_of}
use Rattle.xs_compile.proofs.compiler.Compiler.keys.Given as goal

-- those of the declarations that were passed
abbrev pub invariant-loop-place : goal.invariant-loop-place
invariant-loop-place l = AllZip (IsKey (source_of l.self)) (filter (λ p. is_key (tag_at (modules_of l.self) p)) (take l.place-index l.declared)) l.keys.items
