-- Meters as tallies.
use Rattle.std.specs.Prelude.{◌≡◌, ℕ, ◌+◌, [], Option, Some, None, Result, Ok, Err}
use Rattle.xs_trace.specs.State.{State, Nothing, alone}
use Rattle.xs_trace.specs.Play.{number, IsStepBy}
use Rattle.xs_trace.specs.Run.{Run, Gives, Faults, Lacks, limited}
use Rattle.xs_trace.specs.Cut.{less, Allows}
use Rattle.xs_trace.specs.declared.item.Site.{Site}
use Rattle.xs_trace.specs.declared.recorder.Halt.{Halt}
use Rattle.xs_trace.specs.declared.recorder.Halt.TheVariants as halt
use Rattle.xs_trace.specs.declared.meter.Meter.{Meter}

-- what is left of a limit
abbrev pub metered : {H : Type 0} → Meter → State H
metered m = record { reported = Nothing; captures = []; at = None; room = None; left = less m.limit m.spent; shared = alone }

-- A limit, and what was spent together with what is left.
pub record Stock : Type 0 where
  pub limit : Option ℕ
  pub all : ℕ

abbrev pub stock : Meter → Stock
stock m = record { limit = m.limit; all = m.spent + number (less m.limit m.spent) }

-- a result other than out of memory
abbrev pub HasMemory : Result (Unit {0}) Halt → Type 0
HasMemory (Ok u) = Unit {0}
HasMemory (Err (halt.Fault f p)) = Unit {0}
HasMemory (Err (halt.Needs g p)) = Unit {0}
HasMemory (Err (halt.Spent p)) = Unit {0}
HasMemory (Err (halt.Full p)) = Unit {0}
HasMemory (Err (halt.Over t)) = Unit {0}
HasMemory (Err halt.NoMemory) = ⊥

-- n more, where there is a limit
abbrev pub spends : Option ℕ → ℕ → ℕ → ℕ
spends None n spent = spent
spends (Some m) n spent = spent + n

-- How a run at an instruction ended that a meter counted, from a state of it to another.
abbrev pub IsMetered : {A B : Type 0} → (B → A) → Site → Run A → Result B Halt → Meter → Meter → Type 0
IsMetered view p r (Ok x) m k = (r.end ≡ Gives (view x)) × ((k.limit ≡ m.limit) × (k.spent ≡ spends m.limit r.cost m.spent))
IsMetered view p r (Err (halt.Fault f q)) m k = (r.end ≡ Faults f) × ((k.limit ≡ m.limit) × (k.spent ≡ spends m.limit r.cost m.spent))
IsMetered view p r (Err (halt.Spent q)) m k = (q ≡ p) × ((k.limit ≡ m.limit) × ((m.limit ≡ Some k.spent) × (Allows m.limit (m.spent + r.cost) → ⊥)))
IsMetered view p r (Err (halt.Over t)) m k = ⊥
IsMetered view p r (Err (halt.Full q)) m k = ⊥
IsMetered view p r (Err (halt.Needs g q)) m k = (r.end ≡ Lacks g) × ((k.limit ≡ m.limit) × (k.spent ≡ spends m.limit r.cost m.spent))
IsMetered view p r (Err halt.NoMemory) m k = k.limit ≡ m.limit

abbrev pub MeterLaw : (H A B : Type 0) → Type 0
MeterLaw H A B = (view : B → A) (p : Site) (r : Run A) (result : Result B Halt) (m k : Meter) →
    Allows m.limit m.spent →
    IsStepBy {H = H} view (limited p r (metered m)) result (metered k) → stock k ≡ stock m → IsMetered view p r result m k
