-- What is true of the evaluation.
use Rattle.std.specs.Prelude.{◌≡◌, ℕ, ◌+◌, ◌<◌, ◌≤◌, List, [], ◌∷◌, ◌++◌, slice_get, Option, Some, None}
use Rattle.std.specs.List.{All}
use Rattle.std.specs.Option.{IsSome}
use Rattle.xs_sheet.specs.declared.body.Body.{Body}
use Rattle.xs_sheet.specs.declared.declarations.Global.{Global}
use Rattle.xs_sheet.specs.Sound.{IsSound}
use Rattle.xs_trace.specs.Fill.{HolesAre, fill, tasks_of}
use Rattle.xs_trace.specs.Label.{Label}
use Rattle.xs_trace.specs.Mark.{Tick, Put, Say, Stop, Need, Hole, Trace, GoesOn, NeedsNothing, captured, events_of, messages_of, tick_count}
use Rattle.xs_trace.specs.declared.event.Event.{Event}
use Rattle.xs_trace.specs.declared.item.Site.{Site}
use Rattle.xs_value.specs.declared.value.Value.{Value}
use Rattle.xs_attribute_sets.specs.declared.index.SetIndex.{SetIndex}
use Rattle.xs_body_spec.specs.declared.focus.Focus.{Focus}
use Rattle.xs_body_spec.specs.World.{World, all_set_levels, captured_in, with_grain, with_index}
use Rattle.xs_body_spec.specs.Tasks.{Task}
use Rattle.xs_body_spec.specs.Trace.{body_trace, called, calls_at, task_trace, using}
use Rattle.xs_body_spec.specs.Ranks.{BeginsWithTick, HasNodes, rank_of}
use Rattle.xs_body_spec.specs.Globals.{Settled, SettlesAll, attempt_trace, attempt_value}

-- the trace with a grain, each hole filled by the trace of its task, is the trace without one
abbrev pub TasksFill : Type 0
TasksFill = (w : World) (t : Task) → fill (task_trace (with_grain None w)) (task_trace w t) ≡ task_trace (with_grain None w) t

-- nothing of captured content is left to tasks
abbrev pub CapturedLeavesNothing : Type 0
CapturedLeavesNothing = (w : World) (body : Body) (f : Focus) (vs : List Value) → tasks_of (body_trace body w (calls_at w f) (captured_in f) vs) ≡ []

-- Captured content takes its ticks and says its messages as content does that is not captured; what follows comes after it
-- (XSLT 1.0, 11.2, 13).
abbrev pub CapturedTakesTicks : Type 0
CapturedTakesTicks = (x : Trace Task) (f : List Event → Trace Task) → GoesOn x →
    tick_count (captured x f) ≡ tick_count x + tick_count (f (events_of x))

abbrev pub CapturedSays : Type 0
CapturedSays = (x : Trace Task) (f : List Event → Trace Task) → GoesOn x →
    messages_of (captured x f) ≡ messages_of x ++ messages_of (f (events_of x))

-- a need is of a global that has no value yet
abbrev pub NeedsOnly : List (Option Value) → Trace Task → Type 0
NeedsOnly gs [] = Unit {0}
NeedsOnly gs (Tick p ∷ x) = NeedsOnly gs x
NeedsOnly gs (Put e ∷ x) = NeedsOnly gs x
NeedsOnly gs (Say t ∷ x) = NeedsOnly gs x
NeedsOnly gs (Stop n p ∷ x) = NeedsOnly gs x
NeedsOnly gs (Need g p ∷ x) = slice_get gs g ≡ Some None
NeedsOnly gs (Hole t ∷ x) = NeedsOnly gs x

abbrev pub TasksNeed : Type 0
TasksNeed = (w : World) (t : Task) → NeedsOnly w.globals (task_trace w t)

abbrev pub AttemptsNeed : Type 0
AttemptsNeed = (w : World) (g : Option Global) → NeedsOnly w.globals (attempt_trace w g)

-- where all globals have values, nothing is needed
abbrev pub SettledNeedsNothing : Type 0
SettledNeedsNothing = (w : World) (t : Task) → All IsSome w.globals → NeedsNothing (task_trace w t)

-- nothing that is done depends on the index by which attribute sets are found
abbrev pub TasksAreTheSame : Type 0
TasksAreTheSame = (w : World) (index : SetIndex) (t : Task) → task_trace (with_index index w) t ≡ task_trace w t

abbrev pub AttemptsAreTheSame : Type 0
AttemptsAreTheSame = (w : World) (index : SetIndex) (g : Option Global) →
    (attempt_trace (with_index index w) g ≡ attempt_trace w g) × (attempt_value (with_index index w) g ≡ attempt_value w g)

abbrev pub SettlingIsTheSame : Type 0
SettlingIsTheSame = (w : World) (index : SetIndex) (given : List (List ℕ × List ℕ)) (budget : ℕ) (r : Settled) →
    SettlesAll w given budget r → SettlesAll (with_index index w) given budget r

-- the rank falls from a task to those that it leaves: their tree ends
abbrev pub TasksFall : Type 0
TasksFall = (w : World) (t : Task) → HolesAre (λ c. rank_of w c < rank_of w t) (task_trace w t)

-- where the grain is not 0, a task that is left has nodes, and begins with a tick
abbrev pub TasksBegin : Type 0
TasksBegin = (w : World) (t : Task) → (w.grain ≡ Some 0 → ⊥) → HolesAre (λ c. HasNodes c.nodes × BeginsWithTick (task_trace w c)) (task_trace w t)

-- Of a sound stylesheet, where nothing is left to tasks, no more levels of attribute sets are begun than it has declarations: no set uses
-- itself (XSLT 1.0, 7.1.4).
abbrev pub LevelsSuffice : Type 0
LevelsSuffice = (w : World) (names : List Label) (depth n : ℕ) (p : Site) (f : Focus) → IsSound w.sheet → w.grain ≡ None → all_set_levels w ≤ n →
    called (using names) w depth n p f ≡ called (using names) w depth (all_set_levels w) p f
