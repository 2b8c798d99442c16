-- What finding by key takes.
use Rattle.std.specs.Prelude.{Result, Ok, Err}
use Rattle.xs_value.specs.declared.keys.Found.{Found}
use Rattle.xs_value.specs.declared.keys.Found.TheVariants.{Made, Kept}
use Rattle.xs_value.specs.declared.keys.KeyEnd.{KeyEnd}
use Rattle.xs_value.specs.declared.keys.KeyEnd.TheVariants.{Fault, NoMemory}

-- a list that is kept, or a fault: no memory is taken
abbrev pub IsKept : Result Found KeyEnd → Type 0
IsKept (Ok (Kept nodes)) = Unit {0}
IsKept (Ok (Made nodes)) = ⊥
IsKept (Err (Fault f)) = Unit {0}
IsKept (Err NoMemory) = ⊥
