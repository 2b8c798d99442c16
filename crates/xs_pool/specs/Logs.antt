-- What was run: pieces with their outcomes, and the claims of them.
use Rattle.std.specs.Prelude.{◌≡◌, ◌<◌, ◌≤◌, ℕ, List, [], false, if◌then◌else◌}
use Rattle.std.specs.List.{All}
use Rattle.xs_trace.specs.Mark.{Trace, tick_count}
use Rattle.xs_trace.specs.Cut.{cut}
use Rattle.xs_trace.specs.Fill.{tasks_of}
use Rattle.xs_trace.specs.declared.item.Limits.{Limits}
use Rattle.xs_core.specs.declared.place.Claim.{Claim}
use Rattle.xs_core.specs.Good.{total}
use Rattle.xs_record.specs.Outcome.{IsOutcome}
use Rattle.xs_pieces.specs.Collection.{is_finished, IfFinished, ticks_spent, claimed_in}
use Rattle.xs_pieces.specs.declared.piece.Piece.{Piece}

-- the tasks that a task leaves within the limits
abbrev pub left_by : {H : Type 0} → (own : H → Trace H) → Limits → H → List H
left_by own l t = tasks_of (cut (own t) l.ticks l.events).passed

-- A piece that was run. Where it is finished, it did what its task does, cut at the limits; else it has spent no more ticks than that.
pub record IsRan {H : Type 0} (own : H → Trace H) (Fits : H → Type 0) (l : Limits) (p : Piece H) : Type 0 where
  pub fits : Fits p.task
  pub outcome : IfFinished (IsOutcome (own p.task) l) p.outcome
  pub spent : is_finished p.outcome ≡ false → ticks_spent p.outcome ≤ tick_count (cut (own p.task) l.ticks l.events).passed

-- Pieces that were run, and their claims, by workers below a number. The first of these claims the root.
pub record IsLog {H : Type 0} (place : H → List ℕ) (own : H → Trace H) (Fits : H → Type 0) (l : Limits) (count : ℕ) (ps : List (Piece H))
    (cs : List Claim) : Type 0 where
  pub pieces : All (IsRan own Fits l) ps
  pub claims : (h : List ℕ → ℕ) → total (λ c. h c.place) cs ≡ total h (claimed_in place ps)
  pub workers : All (λ c. c.worker < count) cs
  pub root : All (λ c. c.place ≡ [] → c.worker ≡ 0) cs

-- the weights of the tasks of pieces
abbrev pub run_in : {H : Type 0} → (H → ℕ) → List (Piece H) → ℕ
run_in h ps = total (λ p. h p.task) ps

-- the weights of what a finished piece leaves
abbrev pub left_in : {H : Type 0} → (H → ℕ) → (own : H → Trace H) → Limits → Piece H → ℕ
left_in h own l p = if is_finished p.outcome then total h (left_by own l p.task) else 0

-- of what all finished pieces leave
abbrev pub all_left : {H : Type 0} → (H → ℕ) → (own : H → Trace H) → Limits → List (Piece H) → ℕ
all_left h own l ps = total (left_in h own l) ps

-- the ticks that pieces spent
abbrev pub spent_in : {H : Type 0} → List (Piece H) → ℕ
spent_in ps = total (λ p. ticks_spent p.outcome) ps

-- how many pieces ended in the total
abbrev pub stopped_in : {H : Type 0} → List (Piece H) → ℕ
stopped_in ps = total (λ p. if is_finished p.outcome then 0 else 1) ps
