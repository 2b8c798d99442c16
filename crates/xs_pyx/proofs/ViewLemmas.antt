-- What a line says that is read as borrowed text.
use Rattle.std.proofs.Common.{ℕ, List, Option, Some, None, Result, Ok, Err, IsErrOf}
use Rattle.xs_pyx.specs.declared.fault.Fault.{Fault}
use Rattle.xs_pyx.specs.declared.line.LineFault.TheVariants.{NoMemory}
use Rattle.xs_pyx.specs.declared.view.LineView.{LineView}
use Rattle.xs_pyx.specs.Results.{Reads, Finds}
use Rattle.xs_pyx.specs.Views.{reported}
use Rattle.xs_pyx.proofs.LineLemmas.{finds-reads}

-- an answer that borrows never runs out of memory
reported_memory : (r : Result (Option (LineView × ℕ)) Fault) → IsErrOf (reported r) NoMemory → ⊥
reported_memory (Ok None) h = absurd (cc)
reported_memory (Ok (Some found)) h = absurd (cc)
reported_memory (Err fault) h = absurd (cc)

pub view_finds : (r : Result (Option (LineView × ℕ)) Fault) (bytes : List ℕ) → Reads (reported r) bytes → Finds (reported r) bytes
view_finds r bytes h = finds-reads (reported r) bytes h (λ memory. absurd (reported_memory r memory))
