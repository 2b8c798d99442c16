-- What the code finds for a variable.
use Rattle.std.specs.Prelude.{◌≡◌, Result, Ok, Err}
use Rattle.xs_trace.specs.Run.{Run, give, lack}
use Rattle.xs_trace.specs.declared.item.Site.{Site}
use Rattle.xs_trace.specs.declared.recorder.Halt.{Halt}
use Rattle.xs_trace.specs.declared.recorder.Halt.TheVariants as halt
use Rattle.xs_value.specs.declared.value.Value.{Value}

-- the value, or the need of a global variable, at an instruction; out of memory is free
abbrev pub Finds : Site → Run Value → Result Value Halt → Type 0
Finds p r (Ok v) = r ≡ give v
Finds p r (Err (halt.Needs g q)) = (q ≡ p) × (r ≡ lack g)
Finds p r (Err (halt.Fault f q)) = ⊥
Finds p r (Err (halt.Spent q)) = ⊥
Finds p r (Err (halt.Full q)) = ⊥
Finds p r (Err (halt.Over t)) = ⊥
Finds p r (Err halt.NoMemory) = Unit {0}
