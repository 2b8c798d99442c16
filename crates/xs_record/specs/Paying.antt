-- How ticks are added to a total.
use Rattle.std.specs.Prelude.{◌≡◌, ℕ, ◌<◌, ◌≤◌, Option, Some, None, Result, Ok, Err}
use Rattle.xs_trace.specs.declared.item.Ended.{Ended}
use Rattle.xs_trace.specs.declared.item.Ended.TheVariants as ended
use Rattle.xs_trace.specs.declared.recorder.Halt.{Halt}
use Rattle.xs_trace.specs.declared.recorder.Halt.TheVariants as halt

-- while something is unpaid, the last answer is at most the most
abbrev pub IsOpen : ℕ → ℕ → ℕ → Type 0
IsOpen m t unpaid = (unpaid ≡ 0 → ⊥) → t ≤ m

-- What an addition gives, by the most and its answer.
abbrev pub IsPaid : ℕ → Result (Unit {0}) Halt → ℕ → Type 0
IsPaid m (Ok u) n = n ≤ m
IsPaid m (Err (halt.Over t)) n = (n ≡ t) × (m < t)
IsPaid m (Err (halt.Fault f p)) n = ⊥
IsPaid m (Err (halt.Needs g p)) n = ⊥
IsPaid m (Err (halt.Spent p)) n = ⊥
IsPaid m (Err (halt.Full p)) n = ⊥
IsPaid m (Err halt.NoMemory) n = ⊥

-- how a run ended: in the total above the most, if there is one
abbrev pub ended_in : Option ℕ → Ended → Ended
ended_in None e = e
ended_in (Some t) e = ended.Over t
