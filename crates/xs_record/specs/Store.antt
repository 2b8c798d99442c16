-- What a store of marks holds, whatever limits there are.
use Rattle.std.specs.Prelude.{ℕ, zero, suc, List, [], ◌∷◌, ◌++◌, Option, Some, Bool, true, false}
use Rattle.xs_trace.specs.Mark.{Put, Trace, ticks}
use Rattle.xs_trace.specs.Cut.{nowhere}
use Rattle.xs_trace.specs.Kept.{IsPacked}
use Rattle.xs_trace.specs.State.{State, All, Untimed, Shared}
use Rattle.xs_trace.specs.declared.event.Event.{Event}
use Rattle.xs_trace.specs.declared.item.Item.{Item}
use Rattle.xs_trace.specs.declared.item.Item.TheVariants as item
use Rattle.xs_trace.specs.declared.item.Site.{Site}

pub record Store (H : Type 0) : Type 0 where
  -- the marks that were recorded
  pub reported : Trace H
  -- the events of the captures that are open, the innermost first
  pub captures : List (List Event)
  -- the place of the last tick
  pub at : Site

abbrev pub empty : {H : Type 0} → Store H
empty = record { reported = []; captures = []; at = nowhere }

-- one stands at the place of some ticks, if there are any
abbrev pub at_ticks : ℕ → Site → Site → Site
at_ticks zero p at = at
at_ticks (suc n) p at = p

abbrev pub counted : {H : Type 0} → Site → ℕ → Store H → Store H
counted p n s = record { reported = s.reported ++ ticks p n []; captures = s.captures; at = at_ticks n p s.at }

abbrev pub marked : {H : Type 0} → Trace H → Store H → Store H
marked x s = record { reported = s.reported ++ x; captures = s.captures; at = s.at }

abbrev pub with_captures : {H : Type 0} → List (List Event) → Store H → Store H
with_captures cs s = record { reported = s.reported; captures = cs; at = s.at }

abbrev pub reported_nothing : {H : Type 0} → Store H → Store H
reported_nothing s = record { reported = []; captures = s.captures; at = s.at }

-- whether a capture is open
abbrev pub is_open : List (List Event) → Bool
is_open [] = false
is_open (c ∷ cs) = true

-- an event, to the innermost capture that is open, or among the marks
abbrev pub put_into : {H : Type 0} → List (List Event) → Event → Store H → Store H
put_into [] e s = marked (Put e ∷ []) s
put_into (c ∷ cs) e s = with_captures ((c ++ e ∷ []) ∷ cs) s

-- a store under limits
abbrev pub limited_to : {H : Type 0} → Option ℕ → ℕ → Shared → Store H → State H
limited_to room left h s = record { reported = All s.reported; captures = s.captures; at = Some s.at; room = room; left = Some left; shared = h }

-- the same of a store that takes no ticks
abbrev pub briefly_to : {H : Type 0} → Option ℕ → ℕ → Shared → Store H → State H
briefly_to room left h s = record { reported = Untimed s.reported; captures = s.captures; at = Some s.at; room = room; left = Some left; shared = h }

-- ticks of which the place is kept alone
abbrev pub stood : {H : Type 0} → Site → ℕ → Store H → Store H
stood p n s = record { reported = s.reported; captures = s.captures; at = at_ticks n p s.at }

-- so many ticks at a place, as an item, if there are any
abbrev pub pending : Site → ℕ → List Item
pending p zero = []
pending p (suc n) = item.Run p.«module» p.line (suc n) ∷ []

-- Items after which so many ticks at a place may stand, and where there are none yet, any ticks.
abbrev pub TakesRun : List Item → Site → ℕ → Type 0
TakesRun is p zero = (q : Site) → IsPacked (is ++ pending q 1)
TakesRun is p (suc n) = IsPacked (is ++ pending p (suc n))

-- a store after some marks
abbrev pub behind : {H : Type 0} → Trace H → Store H → Store H
behind t s = record { reported = t ++ s.reported; captures = s.captures; at = s.at }

-- what a store holds, and how many blocks it has for it
pub record Held (H : Type 0) : Type 0 where
  pub store : Store H
  pub blocks : ℕ
