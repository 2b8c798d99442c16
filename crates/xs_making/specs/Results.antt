-- What the calls answer.
use Rattle.std.specs.Prelude.{◌≡◌, Result, Ok, Err}
use Rattle.xs_trace.specs.declared.fault.Fault.{Fault}
use Rattle.xs_making.specs.declared.ends.MakeEnd.{MakeEnd}
use Rattle.xs_making.specs.declared.ends.MakeEnd.TheVariants.{Fault as InFault, NoMemory}

-- what was made, or the fault; or memory ran out
abbrev pub IsMade : {A : Type 0} → Result A Fault → Result A MakeEnd → Type 0
IsMade made (Ok a) = made ≡ Ok a
IsMade made (Err (InFault fault)) = made ≡ Err fault
IsMade made (Err NoMemory) = Unit {0}
