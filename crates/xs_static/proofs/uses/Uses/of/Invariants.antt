use Rattle.std.proofs.Common.{◌≡◌, take}
use Rattle.xs_elements.specs.Nodes.{Name}
use Rattle.xs_static.specs.Circles.{used_by}
use Rattle.xs_static.specs.Declarations.{declared_all}
use Rattle.xs_static.specs.steps.Uses.{uses_in}
use Rattle.xs_static.proofs.uses.Uses.of.Given as goal

-- the table is that of the declarations that were added
abbrev pub invariant-loop-declaration : goal.invariant-loop-declaration
invariant-loop-declaration l = (n : Name) → uses_in l.uses n ≡ used_by (declared_all (take l.declaration-index l.declarations)) n
