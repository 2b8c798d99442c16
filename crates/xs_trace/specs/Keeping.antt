-- What was recorded of a run by its end.
use Rattle.std.specs.Prelude.{◌≡◌, ℕ, ◌-◌, List, Option, Some, Result, Ok, Err}
use Rattle.xs_trace.specs.Mark.{Trace, NeedsNothing, tick_count}
use Rattle.xs_trace.specs.Cut.{End, Whole, Fault, Needs, Spent, Full, Cut, cut}
use Rattle.xs_trace.specs.State.{State, Log, adds}
use Rattle.xs_trace.specs.Play.{IsStep, play}
use Rattle.xs_trace.specs.PlayLaws.{begun}
use Rattle.xs_trace.specs.Kept.{IsPacked, NeedsNone, marks_of}
use Rattle.xs_trace.specs.declared.item.Item.{Item}
use Rattle.xs_trace.specs.declared.recorder.Halt.{Halt}
use Rattle.xs_trace.specs.declared.recorder.Halt.TheVariants as halt

-- A state in which all that passed a cut was recorded, after what was kept before, at an end, with b ticks at the start.
pub record IsCutAt {H : Type 0} (l : Log H) (e : End) (b : ℕ) (c : Cut H) (s : State H) : Type 0 where
  pub reported : s.reported ≡ adds l c.passed
  pub end : c.end ≡ e
  pub left : s.left ≡ Some (b - tick_count c.passed)

-- The cut that was recorded of a run, by what its last call gave.
abbrev pub IsCutOf : {H : Type 0} → Log H → Result (Unit {0}) Halt → ℕ → Cut H → State H → Type 0
IsCutOf l (Ok u) b c s = IsCutAt l Whole b c s
IsCutOf l (Err (halt.Fault f p)) b c s = IsCutAt l (Fault f p) b c s
IsCutOf l (Err (halt.Needs g p)) b c s = IsCutAt l (Needs g p) b c s
IsCutOf l (Err (halt.Spent p)) b c s = IsCutAt l (Spent p) b c s
IsCutOf l (Err (halt.Full p)) b c s = IsCutAt l (Full p) b c s
IsCutOf l (Err (halt.Over t)) b c s = ⊥
IsCutOf l (Err halt.NoMemory) b c s = Unit {0}

abbrev pub ReportedIsCut : Type 0 → Type 0
ReportedIsCut H = (l : Log H) (x : Trace H) (b : ℕ) (m : Option ℕ) (reported : Result (Unit {0}) Halt) (s : State H) →
    IsStep (play x (begun l b m)) reported s → IsCutOf l reported b (cut x b m) s

-- from whatever state, and from whatever view of what it gives
abbrev pub NeedComesFromNeed : Type 0 → Type 0
NeedComesFromNeed H = (x : Trace H) (s m : State H) (reported : Result (Unit {0}) Halt) → NeedsNothing x → IsStep (play x s) reported m → NeedsNone reported

-- packed items with the same marks are the same
abbrev pub PackedOnce : Type 0 → Type 0
PackedOnce H = (is js : List Item) → IsPacked is → IsPacked js → marks_of {H = H} is ≡ marks_of js → is ≡ js
