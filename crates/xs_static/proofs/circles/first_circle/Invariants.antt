use Rattle.std.proofs.Common.{take}
use Rattle.xs_static.specs.Circles.{IsFirstOf}
use Rattle.xs_static.specs.Declarations.{declared_all}
use Rattle.xs_static.proofs.circles.first_circle.Given as goal

-- the first of the declarations that were looked at
abbrev pub invariant-loop-declaration : goal.invariant-loop-declaration
invariant-loop-declaration l =
    IsFirstOf (declared_all l.declarations) (declared_all (take l.declaration-index l.declarations)) l.first
