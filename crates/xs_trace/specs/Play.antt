-- A trace that is recorded, mark by mark, under the limits of its recorder.
use Rattle.std.specs.Prelude.{◌≡◌, ℕ, ◌+◌, ◌/◌, length, List, [], ◌∷◌, ◌++◌, Option, Some, None, Result, Ok, Err, if◌then◌else◌}
use Rattle.xs_trace.specs.Event.{text_of}
use Rattle.xs_trace.specs.Mark.{Tick, Put, Say, Stop, Need, Hole, Trace, ticks, tick_count}
use Rattle.xs_trace.specs.Cut.{End, Whole, Fault, Needs, Spent, Full}
use Rattle.xs_trace.specs.State.{State, Log, Shared, passed, IsAbove, place, allows, adds, after_tick, after_ticks, after_put, captures_are, said, shown}
use Rattle.xs_trace.specs.declared.event.Event.{Event}
use Rattle.xs_trace.specs.declared.item.Site.{Site}
use Rattle.xs_trace.specs.declared.recorder.Halt.{Halt}
use Rattle.xs_trace.specs.declared.recorder.Halt.TheVariants as halt

-- It goes on with a value, from a state; or it has ended, with what was recorded, what is left of the ticks, and what is shared.
pub data Step (H A : Type 0) : Type 0 where
  Goes : (value : A) (state : State H) → Step H A
  Ends : (end : End) (reported : Log H) (left : Option ℕ) (shared : Shared) → Step H A

abbrev pub and_then : {H : Type 0} → {A B : Type 0} → Step H A → (A → State H → Step H B) → Step H B
and_then (Goes x s) f = f x s
and_then (Ends e reported left h) f = Ends e reported left h

abbrev pub Reported : Type 0 → Type 0
Reported H = Step H (Unit {0})

abbrev pub goes : {H : Type 0} → State H → Reported H
goes s = Goes tt s

-- an end where one stands
abbrev pub stops : {H : Type 0} → {A : Type 0} → End → State H → Step H A
stops e s = Ends e s.reported s.left s.shared

-- a tick
abbrev pub ticked : {H : Type 0} → Site → State H → Reported H
ticked p s = if allows s.left 1 then goes (after_tick p s) else Ends (Spent p) s.reported (Some 0) s.shared

abbrev pub number : Option ℕ → ℕ
number None = 0
number (Some n) = n

-- n ticks at one place; where there are fewer left, those
abbrev pub ticked_by : {H : Type 0} → ℕ → Site → State H → Reported H
ticked_by n p s = if allows s.left n then goes (after_ticks n p s) else Ends (Spent p) (adds s.reported (ticks p (number s.left) [])) (Some 0) s.shared

abbrev pub put_in : {H : Type 0} → List (List Event) → Event → State H → Reported H
put_in [] e s = if allows s.room 1 then goes (after_put e s) else stops (Full (place s.at)) s
put_in (c ∷ cs) e s = goes (captures_are ((c ++ e ∷ []) ∷ cs) s)

-- an event, to the innermost capture that is open, or to the result
abbrev pub put : {H : Type 0} → Event → State H → Reported H
put e s = put_in s.captures e s

-- an event at an instruction: first a tick for each full 256 bytes of its text
abbrev pub put_at : {H : Type 0} → Site → Event → State H → Reported H
put_at p e s = and_then (ticked_by (length (text_of e) / 256) p s) (λ u m. put e m)

-- a message at an instruction: first a tick for each full 256 bytes
abbrev pub said_at : {H : Type 0} → Site → List ℕ → State H → Reported H
said_at p t s = and_then (ticked_by (length t / 256) p s) (λ u m. goes (said t m))

-- a trace
abbrev pub play : {H : Type 0} → Trace H → State H → Reported H
play [] s = goes s
play (Tick p ∷ x) s = and_then (ticked p s) (λ u m. play x m)
play (Put e ∷ x) s = and_then (put e s) (λ u m. play x m)
play (Say t ∷ x) s = play x (said t s)
play (Stop f p ∷ x) s = stops (Fault f p) s
play (Need g p ∷ x) s = stops (Needs g p) s
play (Hole k ∷ x) s = play x (shown (Hole k) s)

abbrev pub reported_of : {H : Type 0} → {A : Type 0} → Step H A → Log H
reported_of (Goes x s) = s.reported
reported_of (Ends e reported left h) = reported

abbrev pub left_of : {H : Type 0} → {A : Type 0} → Step H A → Option ℕ
left_of (Goes x s) = s.left
left_of (Ends e reported left h) = left

abbrev pub end_of : {H : Type 0} → {A : Type 0} → Step H A → End
end_of (Goes x s) = Whole
end_of (Ends e reported left h) = e

abbrev pub shared_of : {H : Type 0} → {A : Type 0} → Step H A → Shared
shared_of (Goes x s) = s.shared
shared_of (Ends e reported left h) = h

-- n more
abbrev pub raised : Option ℕ → ℕ → Option ℕ
raised None n = None
raised (Some m) n = Some (m + n)

-- What was recorded in a state is a beginning of what is recorded in all, and what is left there is more by the ticks of the rest.
pub record Before {H : Type 0} {A : Type 0} (s : State H) (g : Step H A) : Type 0 where
  pub rest : Trace H
  pub reported : reported_of g ≡ adds s.reported rest
  pub left : s.left ≡ raised (left_of g) (tick_count rest)

-- A total above the most was answered in this call: none before it, and no tick came after that answer.
pub record IsOver {H : Type 0} {A : Type 0} (g : Step H A) (t : ℕ) (s : State H) : Type 0 where
  pub above : IsAbove s.shared.most t
  pub first : (shared_of g).above ≡ None
  pub shared : s.shared ≡ passed t s.left (shared_of g)
  pub before : Before s g

-- What a call gave, and the state that it left. A lack of memory is free.
abbrev pub IsStepBy : {H : Type 0} → {A B : Type 0} → (B → A) → Step H A → Result B Halt → State H → Type 0
IsStepBy view g (Ok x) s = g ≡ Goes (view x) s
IsStepBy view g (Err (halt.Fault f p)) s = g ≡ stops (Fault f p) s
IsStepBy view g (Err (halt.Needs v p)) s = g ≡ stops (Needs v p) s
IsStepBy view g (Err (halt.Spent p)) s = g ≡ stops (Spent p) s
IsStepBy view g (Err (halt.Full p)) s = g ≡ stops (Full p) s
IsStepBy view g (Err (halt.Over t)) s = IsOver g t s
IsStepBy view g (Err halt.NoMemory) s = Unit {0}

abbrev pub IsStep : {H : Type 0} → {A : Type 0} → Step H A → Result A Halt → State H → Type 0
IsStep = IsStepBy (λ x. x)
