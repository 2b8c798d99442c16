-- An attempt at a global among those under attempt, and what it leaves to be done.
use Rattle.std.specs.Prelude.{◌≡◌, ◌⊎◌, ℕ, ◌+◌, ◌*◌, ◌<◌, ◌≤◌, [], ◌∷◌, reverse, Bool, true, false, List, length, Option, Some, None, slice_get}
use Rattle.std.specs.List.{All, sum_by}
use Rattle.xs_trace.specs.Cut.{End, Whole, Fault, Needs, Spent, Full}
use Rattle.xs_trace.specs.Kept.{spot}
use Rattle.xs_trace.specs.declared.fault.Fault.TheVariants as fault
use Rattle.xs_trace.specs.declared.item.Site.{Site}
use Rattle.xs_trace.specs.declared.item.Spot.{Spot}
use Rattle.xs_value.specs.declared.value.Value.{Value}
use Rattle.xs_eval_spec.specs.Conditions.{IsInIf}
use Rattle.xs_body_spec.specs.World.{World}
use Rattle.xs_body_spec.specs.Globals.{Table, Settled, settled, ended, Settles, AllSettle, tried, added, with_passed, with_value, once_more, is_under}
use Rattle.xs_globals.specs.declared.settled.Table as code
use Rattle.xs_globals.specs.declared.settled.Turn.{Turn}
use Rattle.xs_globals.specs.declared.settled.Turn.TheVariants as turn

abbrev pub table_of : code.Table → Table
table_of t = record { values = t.values.items; says = t.says.items; ticks = t.ticks; thrown = t.thrown }

-- those of which an attempt was begun are flagged: of the globals without a value, those under attempt
abbrev pub IsFlagged : List Bool → (under : List ℕ) → List (Option Value) → Type 0
IsFlagged begun under values = (h : ℕ) → slice_get values h ≡ Some None → slice_get begun h ≡ Some (is_under under h)

-- how many are not flagged
abbrev pub unmarked : Bool → ℕ
unmarked true = 0
unmarked false = 1

abbrev pub left_over : List Bool → ℕ
left_over begun = sum_by unmarked begun

-- What holds of a table between attempts: its values are in the tree, the ticks within the budget, and no more attempts were thrown
-- away than globals are flagged.
pub record IsGoing (w : World) (budget : ℕ) (begun : List Bool) (t : Table) : Type 0 where
  pub values : All (IsInIf w.tree) t.values
  pub within : t.ticks ≤ budget
  pub marks : length begun ≡ length w.sheet.globals
  pub count : length t.values ≡ length w.sheet.globals
  pub few : t.thrown + left_over begun ≤ length w.sheet.globals

-- where an attempt ended, and the run with it
abbrev pub EndsSo : List Bool → End → Spot → Type 0
EndsSo begun Whole s = ⊥
EndsSo begun (Fault f p) s = s ≡ spot f p
EndsSo begun (Needs h p) s = (slice_get begun h ≡ Some true) × (s ≡ spot fault.Circular p)
EndsSo begun (Spent p) s = s ≡ spot fault.Budget p
EndsSo begun (Full p) s = ⊥

-- what an attempt at a global did to a table
abbrev pub IsTurn : World → (budget : ℕ) → List Bool → (global : ℕ) → Table → Table → Turn → Type 0
IsTurn w budget begun g t u turn.Done = ((tried w budget t g).end ≡ Whole) × (u ≡ with_value w g (with_passed (tried w budget t g) t))
IsTurn w budget begun g t u (turn.Ends s) = EndsSo begun (tried w budget t g).end s × (u ≡ with_passed (tried w budget t g) t)
IsTurn w budget begun g t u (turn.Needs h) =
    ((p : Site) × ((tried w budget t g).end ≡ Needs h p)) × ((slice_get begun h ≡ Some true → ⊥) × (u ≡ once_more t))

-- what an attempt did that needs another global
abbrev pub IsNeed : List Bool → (other : ℕ) → Site → List (List ℕ) → ℕ → Table → Table → Turn → Type 0
IsNeed begun other p says ticks t u turn.Done = ⊥
IsNeed begun other p says ticks t u (turn.Ends s) = (slice_get begun other ≡ Some true) × ((s ≡ spot fault.Circular p) × (u ≡ added says ticks t))
IsNeed begun other p says ticks t u (turn.Needs h) = (h ≡ other) × ((slice_get begun other ≡ Some true → ⊥) × (u ≡ once_more t))

-- what comes of a table, with globals under attempt, the innermost first
abbrev pub Unwinds : World → (budget : ℕ) → List ℕ → Table → Settled → Type 0
Unwinds w budget [] t r = r ≡ settled t
Unwinds w budget (g ∷ gs) t r =
    ((u : Table) × (Settles w budget gs g t (settled u) × Unwinds w budget gs u r))
    ⊎ ((u : Table) × ((s : Spot) × (Settles w budget gs g t (ended u s) × (r ≡ ended u s))))

-- what comes of those under attempt comes of the global for which the first attempt was made
pub record IsUnderWay (w : World) (budget : ℕ) (g : ℕ) (first : Table) (begun : List Bool) (under : List ℕ) (t : Table) : Type 0 where
  pub settles : (r : Settled) → Unwinds w budget under t r → Settles w budget [] g first r
  pub going : IsGoing w budget begun t
  pub flagged : IsFlagged begun under t.values

-- a turn leaves it under way, with less to be done than so much; or the run has ended
abbrev pub GoesOn : World → (budget : ℕ) → (g : ℕ) → Table → List Bool → List ℕ → Table → (most : ℕ) → Option Spot → Type 0
GoesOn w budget g first begun waiting t most None =
    IsUnderWay w budget g first begun (reverse waiting) t × (2 * left_over begun + length waiting < most)
GoesOn w budget g first begun waiting t most (Some s) = Settles w budget [] g first (ended t s) × IsGoing w budget begun t

-- a global, and then others
abbrev pub Continues : World → (budget : ℕ) → ℕ → Table → Table → Option Spot → Type 0
Continues w budget g t u None = (gs : List ℕ) (r : Settled) → AllSettle w budget gs u r → AllSettle w budget (g ∷ gs) t r
Continues w budget g t u (Some s) = (gs : List ℕ) → AllSettle w budget (g ∷ gs) t (ended u s)
