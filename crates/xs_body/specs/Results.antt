-- What a whole run and an attempt at a global answer.
use Rattle.std.specs.Prelude.{◌≡◌, ℕ, List, [], ◌∷◌, Some}
use Rattle.xs_record.specs.Segment.{items_of}
use Rattle.xs_record.specs.declared.outcome.Outcome.{Outcome}
use Rattle.xs_record.specs.declared.outcome.Part.{Part}
use Rattle.xs_trace.specs.Cut.{Cut, End, Whole, Fault, Needs, Spent, Full}
use Rattle.xs_trace.specs.Kept.{ended_by, marks_of, spot}
use Rattle.xs_trace.specs.Mark.{messages_of, tick_count}
use Rattle.xs_trace.specs.declared.fault.Fault.TheVariants as fault
use Rattle.xs_trace.specs.declared.item.Spot.{Spot}
use Rattle.xs_value.specs.declared.value.Value.{Value}
use Rattle.xs_body_spec.specs.Tasks.{Task}
use Rattle.xs_body.specs.declared.attempts.Attempt.{Attempt}
use Rattle.xs_body.specs.declared.attempts.Attempt.TheVariants as attempt

-- What a whole run answers, by the cut of its trace: one part, whose items are all marks that passed; the end; the ticks.
pub record IsWholeRun (c : Cut Task) (o : Outcome) : Type 0 where
  pub part : Part
  pub only : o.parts.items ≡ part ∷ []
  pub marks : marks_of (items_of part.items) ≡ c.passed
  pub ended : ended_by c.end ≡ Some o.ended
  pub ticks : o.ticks ≡ tick_count c.passed

-- a fault, or a tick past the limit, which is the fault Budget
abbrev pub EndsAt : End → Spot → Type 0
EndsAt Whole s = ⊥
EndsAt (Fault f p) s = s ≡ spot f p
EndsAt (Needs g p) s = ⊥
EndsAt (Spent p) s = s ≡ spot fault.Budget p
EndsAt (Full p) s = ⊥

-- the messages and the ticks that passed a cut
pub record Passed (c : Cut Task) (says : List (List ℕ)) (ticks : ℕ) : Type 0 where
  pub said : says ≡ messages_of c.passed
  pub taken : ticks ≡ tick_count c.passed

-- by the cut of its trace, and its value
abbrev pub IsAttempt : Cut Task → Value → Attempt → Type 0
IsAttempt c v (attempt.Done value says ticks) = (c.end ≡ Whole) × ((value ≡ v) × Passed c says.items ticks)
IsAttempt c v (attempt.Stopped says ticks s) = EndsAt c.end s × Passed c says.items ticks
IsAttempt c v (attempt.Needs g p says ticks) = (c.end ≡ Needs g p) × Passed c says.items ticks
