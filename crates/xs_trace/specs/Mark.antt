-- The marks of a run, in order, with no limit.
use Rattle.std.specs.Prelude.{ℕ, zero, suc, List, [], ◌∷◌}
use Rattle.xs_trace.specs.declared.event.Event.{Event}
use Rattle.xs_trace.specs.declared.fault.Fault.{Fault as RunFault}
use Rattle.xs_trace.specs.declared.item.Site.{Site}

-- One thing that a run does: a step of its work at an instruction, an event put into the result, a message said to the
-- user, a stop in a fault, or a stop at a global variable that has no value yet. A hole represents a part that is
-- evaluated apart; no trace of a whole run has one.
pub data Mark (H : Type 0) : Type 0 where
  Tick : (site : Site) → Mark H
  Put : (event : Event) → Mark H
  Say : (text : List ℕ) → Mark H
  Stop : (fault : RunFault) (site : Site) → Mark H
  Need : (global : ℕ) (site : Site) → Mark H
  Hole : (task : H) → Mark H

abbrev pub Trace : Type 0 → Type 0
Trace H = List (Mark H)

-- x then y: y after x, unless x has a stop
infixr 10 ◌⨾◌
abbrev pub ◌⨾◌ : {H : Type 0} → Trace H → Trace H → Trace H
[] ⨾ y = y
(Tick p ∷ x) ⨾ y = Tick p ∷ (x ⨾ y)
(Put e ∷ x) ⨾ y = Put e ∷ (x ⨾ y)
(Say t ∷ x) ⨾ y = Say t ∷ (x ⨾ y)
(Stop f p ∷ x) ⨾ y = Stop f p ∷ x
(Need g p ∷ x) ⨾ y = Need g p ∷ x
(Hole k ∷ x) ⨾ y = Hole k ∷ (x ⨾ y)

-- neither a stop nor a need is in it
abbrev pub GoesOn : {H : Type 0} → Trace H → Type 0
GoesOn [] = Unit {0}
GoesOn (Tick p ∷ x) = GoesOn x
GoesOn (Put e ∷ x) = GoesOn x
GoesOn (Say t ∷ x) = GoesOn x
GoesOn (Stop f p ∷ x) = ⊥
GoesOn (Need g p ∷ x) = ⊥
GoesOn (Hole k ∷ x) = GoesOn x

-- no need is in it
abbrev pub NeedsNothing : {H : Type 0} → Trace H → Type 0
NeedsNothing [] = Unit {0}
NeedsNothing (Tick p ∷ x) = NeedsNothing x
NeedsNothing (Put e ∷ x) = NeedsNothing x
NeedsNothing (Say t ∷ x) = NeedsNothing x
NeedsNothing (Stop f p ∷ x) = NeedsNothing x
NeedsNothing (Need g p ∷ x) = ⊥
NeedsNothing (Hole k ∷ x) = NeedsNothing x

-- n ticks at a place, and then t
abbrev pub ticks : {H : Type 0} → Site → ℕ → Trace H → Trace H
ticks p zero t = t
ticks p (suc n) t = Tick p ∷ ticks p n t

-- how many ticks a trace has
abbrev pub tick_count : {H : Type 0} → Trace H → ℕ
tick_count [] = 0
tick_count (Tick p ∷ x) = suc (tick_count x)
tick_count (Put e ∷ x) = tick_count x
tick_count (Say t ∷ x) = tick_count x
tick_count (Stop f p ∷ x) = tick_count x
tick_count (Need g p ∷ x) = tick_count x
tick_count (Hole k ∷ x) = tick_count x

-- the events that are put, in order
abbrev pub events_of : {H : Type 0} → Trace H → List Event
events_of [] = []
events_of (Tick p ∷ x) = events_of x
events_of (Put e ∷ x) = e ∷ events_of x
events_of (Say t ∷ x) = events_of x
events_of (Stop f p ∷ x) = events_of x
events_of (Need g p ∷ x) = events_of x
events_of (Hole k ∷ x) = events_of x

-- the messages that are said, in order
abbrev pub messages_of : {H : Type 0} → Trace H → List (List ℕ)
messages_of [] = []
messages_of (Tick p ∷ x) = messages_of x
messages_of (Put e ∷ x) = messages_of x
messages_of (Say t ∷ x) = t ∷ messages_of x
messages_of (Stop f p ∷ x) = messages_of x
messages_of (Need g p ∷ x) = messages_of x
messages_of (Hole k ∷ x) = messages_of x

-- the place of the last tick, or the one given where there is none
abbrev pub last_site : {H : Type 0} → Site → Trace H → Site
last_site at [] = at
last_site at (Tick p ∷ x) = last_site p x
last_site at (Put e ∷ x) = last_site at x
last_site at (Say t ∷ x) = last_site at x
last_site at (Stop f p ∷ x) = last_site at x
last_site at (Need g p ∷ x) = last_site at x
last_site at (Hole k ∷ x) = last_site at x

-- a trace without its puts
abbrev pub without_puts : {H : Type 0} → Trace H → Trace H
without_puts [] = []
without_puts (Tick p ∷ x) = Tick p ∷ without_puts x
without_puts (Put e ∷ x) = without_puts x
without_puts (Say t ∷ x) = Say t ∷ without_puts x
without_puts (Stop f p ∷ x) = Stop f p ∷ without_puts x
without_puts (Need g p ∷ x) = Need g p ∷ without_puts x
without_puts (Hole k ∷ x) = Hole k ∷ without_puts x

-- a trace without its ticks
abbrev pub untimed : {H : Type 0} → Trace H → Trace H
untimed [] = []
untimed (Tick p ∷ x) = untimed x
untimed (Put e ∷ x) = Put e ∷ untimed x
untimed (Say t ∷ x) = Say t ∷ untimed x
untimed (Stop f p ∷ x) = Stop f p ∷ untimed x
untimed (Need g p ∷ x) = Need g p ∷ untimed x
untimed (Hole k ∷ x) = Hole k ∷ untimed x

-- Captured content (XSLT 1.0, 7.1.3, 7.3, 7.4, 11.2, 13): all but the puts stays, the puts become the value, and what
-- follows is a function of that value.
abbrev pub captured : {H : Type 0} → Trace H → (List Event → Trace H) → Trace H
captured x then_with = without_puts x ⨾ then_with (events_of x)
