use Rattle.std.proofs.Common.{◌≡◌, map, take}
use Rattle.xs_static.specs.Declarations.{declared}
use Rattle.xs_modules.specs.Results.{modules_data}
use Rattle.xs_static.specs.steps.Circles.{declarations_of}
use Rattle.xs_static.proofs.sets.declarations.Given as goal

-- the declarations among the elements that were passed
abbrev pub invariant-loop-place : goal.invariant-loop-place
invariant-loop-place l = map declared l.found.items ≡ declarations_of (modules_data l.modules) (take l.place-index l.places)
