use Rattle.std.proofs.Common.{take}
use Rattle.std.specs.List.{AllZip}
use Rattle.xs_compile.specs.Bodies.{IsPutAttribute}
use Rattle.xs_compile.specs.steps.State.{source_of}
use Rattle.xs_structure.specs.Modules.{Place}
use Rattle.xs_compile.proofs.compiler.Compiler.put_attributes.Given as goal

-- those of the attributes that were passed
abbrev pub invariant-loop-node : goal.invariant-loop-node
invariant-loop-node l =
    let p : Place = (l.number, l.n) in
    AllZip (IsPutAttribute (source_of l.self) p) (take l.node-index l.node-items) l.put.items
