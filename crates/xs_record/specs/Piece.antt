-- A piece of a run that is recorded.
use Rattle.std.specs.Prelude.{◌≡◌, ℕ, ◌+◌, ◌*◌, ◌<◌, ◌≤◌, List, [], ◌++◌, Option, Some, None, Result}
use Rattle.xs_trace.specs.Mark.{Trace, tick_count}
use Rattle.xs_trace.specs.Cut.{cut, nowhere}
use Rattle.xs_trace.specs.Fill.{numbered, tasks_of}
use Rattle.xs_trace.specs.State.{State, All, Above, Shared}
use Rattle.xs_trace.specs.Play.{IsStep, play}
use Rattle.xs_trace.specs.Total.{over}
use Rattle.xs_trace.specs.declared.item.Ended.TheVariants as ended
use Rattle.xs_trace.specs.declared.item.Limits.{Limits}
use Rattle.xs_trace.specs.declared.recorder.Halt.{Halt}
use Rattle.xs_record.specs.Outcome.{AreParts, IsOutcome, part_marks}
use Rattle.xs_record.specs.declared.outcome.Outcome.{Outcome}

-- a total above the most, answered when so many ticks were left
abbrev pub above_at : Option ℕ → ℕ → Option Above
above_at None left = None
above_at (Some t) left = Some (record { total = t; left = Some left })

-- what a piece shares: the most of its total, and the last answer where it is above that
abbrev pub held : ℕ → ℕ → ℕ → Shared
held m last left = record { most = Some m; above = above_at (over m last) left }

-- where a piece begins, by its limits, and by the most of its total and the last answer
abbrev pub started : {H : Type 0} → Limits → ℕ → ℕ → State H
started l m last =
    record { reported = All []; captures = []; at = Some nowhere; room = l.events; left = Some l.ticks; shared = held m last l.ticks }

-- What no call to a recorder of a piece changes: its limits; what no addition changes of the total, and the most of it; the
-- ticks added, those not added yet and those left together; the free blocks of its pool at the start.
pub record Paid (K : Type 0) : Type 0 where
  pub limits : Limits
  pub total : K
  pub most : ℕ
  pub all : ℕ
  pub free : ℕ

-- So many ticks are unpaid where so many are left of a limit: what was recorded is some full 1,024s, which were added, and these.
pub record AreUnpaid (unpaid left limit : ℕ) : Type 0 where
  pub additions : ℕ
  pub few : unpaid < 1024
  pub all : left + (1024 * additions + unpaid) ≡ limit

-- So much was added where so many are left: all that was recorded but what is unpaid.
pub record HasAdded (all limit left added : ℕ) : Type 0 where
  pub unpaid : ℕ
  pub are_unpaid : AreUnpaid unpaid left limit
  pub sum : all ≡ added + (unpaid + left)

-- All that passed the cut is in the outcome, and the tasks of its holes follow the children.
pub record IsWhole {H : Type 0} (x : Trace H) (l : Limits) (old new : List H) (o : Outcome) : Type 0 where
  pub outcome : IsOutcome x l o
  pub tasks : new ≡ old ++ tasks_of (cut x l.ticks l.events).passed

-- A beginning of what passed the cut is in the outcome, and the tasks of its holes follow the children.
pub record IsBeginning {H : Type 0} (x : Trace H) (l : Limits) (old new : List H) (o : Outcome) : Type 0 where
  pub marks : Trace H
  pub rest : Trace H
  pub passed : (cut x l.ticks l.events).passed ≡ marks ++ rest
  pub parts : part_marks o.parts.items ≡ numbered 0 marks
  pub tasks : new ≡ old ++ tasks_of marks

-- By the last answer, where it is above the most: then the piece ended in it, with a beginning.
abbrev pub EndsBy : {H : Type 0} → Option ℕ → Trace H → Limits → List H → List H → Outcome → Type 0
EndsBy None x l old new o = IsWhole x l old new o
EndsBy (Some t) x l old new o = (o.ended ≡ ended.Over t) × IsBeginning x l old new o

-- What a piece gives, by the most of its total, what was added to it before and after the piece, and the last answer; and by the
-- children before and after.
pub record IsPiece {H : Type 0} (x : Trace H) (l : Limits) (most before after last : ℕ) (old new : List H) (o : Outcome) : Type 0 where
  -- the additions sum to the ticks
  pub added : after ≡ before + o.ticks
  pub ticks : o.ticks ≡ tick_count (part_marks o.parts.items)
  pub parts : AreParts 0 o.parts.items
  pub ends : EndsBy (over most last) x l old new o

-- the same of whatever trace was recorded, by a piece that ended so
abbrev pub IsPieceOf : {H K : Type 0} → Paid K → Result (Unit {0}) Halt → State H → ℕ → ℕ → List H → List H → Outcome → Type 0
IsPieceOf {H = H} paid reported s after last old new o = (x : Trace H) (first before : ℕ) →
    IsStep (play x (started paid.limits paid.most first)) reported s → paid.all ≡ before + paid.limits.ticks →
    IsPiece x paid.limits paid.most before after last old new o

-- A total to which nobody else adds is never above a limit that is the run's own.
abbrev pub NeverOver : Type 0 → Type 0
NeverOver H = (x : Trace H) (l : Limits) (after last : ℕ) (old new : List H) (o : Outcome) → last ≤ after →
    IsPiece x l l.ticks 0 after last old new o → IsWhole x l old new o
