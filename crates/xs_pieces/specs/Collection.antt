-- Collections of pieces, and how they are read as states of the machine.
use Rattle.std.specs.Prelude.{◌≡◌, ◌<◌, ◌==◌, ◌&&◌, ◌∷◌, [], ℕ, suc, List, length, map, Option, Some, None, Bool, true, false, if◌then◌else◌}
use Rattle.std.specs.List.{All}
use Rattle.xs_trace.specs.Mark.{Trace, tick_count}
use Rattle.xs_trace.specs.Cut.{cut}
use Rattle.xs_trace.specs.Fill.{tasks_of}
use Rattle.xs_trace.specs.declared.item.Limits.{Limits}
use Rattle.xs_core.specs.declared.place.Claim.{Claim}
use Rattle.xs_core.specs.declared.piece.Progress.{Progress}
use Rattle.xs_core.specs.Machine.{Facts, State}
use Rattle.xs_core.specs.Good.{total, IsGood}
use Rattle.xs_record.specs.Outcome.{IsOutcome, is_done}
use Rattle.xs_record.specs.declared.outcome.Outcome.{Outcome}
use Rattle.xs_pieces.specs.Tree.{task_at}
use Rattle.xs_pieces.specs.declared.piece.Piece.{Piece}

-- a piece is finished that was run and did not end in the total
abbrev pub is_finished : Option Outcome → Bool
is_finished None = false
is_finished (Some o) = is_done o.ended

-- P of what a finished piece did
abbrev pub IfFinished : (Outcome → Type 0) → Option Outcome → Type 0
IfFinished P None = Unit {0}
IfFinished P (Some o) = is_done o.ended ≡ true → P o

abbrev pub places_in : {H : Type 0} → (place : H → List ℕ) → List (Piece H) → List (List ℕ)
places_in place ps = map (λ p. place p.task) ps

-- ---- the facts of a tree of pieces under limits: the ticks and holes of what the task at a place does itself, cut at both

abbrev pub ticks_in : {H : Type 0} → (own : H → Trace H) → Limits → Option H → ℕ
ticks_in own l None = 0
ticks_in own l (Some t) = tick_count (cut (own t) l.ticks l.events).passed

abbrev pub holes_in : {H : Type 0} → (own : H → Trace H) → Limits → Option H → ℕ
holes_in own l None = 0
holes_in own l (Some t) = length (tasks_of (cut (own t) l.ticks l.events).passed)

abbrev pub facts_of : {H : Type 0} → (own : H → Trace H) → (root : H) → Limits → Facts
facts_of own root l = record { ticks = λ p. ticks_in own l (task_at own (Some root) p); holes = λ p. holes_in own l (task_at own (Some root) p) }

-- ---- a collection as a state: no deque and no hand has anything

-- whether a place is one step below another
abbrev pub is_child : List ℕ → List ℕ → Bool
is_child [] [] = false
is_child [] (k ∷ []) = true
is_child [] (k ∷ j ∷ q) = false
is_child (a ∷ p) [] = false
is_child (a ∷ p) (b ∷ q) = (a == b) && is_child p q

-- how many of some places are one step below a place
abbrev pub children_in : List (List ℕ) → List ℕ → ℕ
children_in [] p = 0
children_in (q ∷ qs) p = if is_child p q then suc (children_in qs p) else children_in qs p

abbrev pub ticks_spent : Option Outcome → ℕ
ticks_spent None = 0
ticks_spent (Some o) = o.ticks

-- the places of the pieces that are finished
abbrev pub finished_in : {H : Type 0} → (place : H → List ℕ) → List (Piece H) → List (List ℕ)
finished_in place [] = []
finished_in place (p ∷ ps) = if is_finished p.outcome then place p.task ∷ finished_in place ps else finished_in place ps

-- The other pieces: one that ended in the total has spent its ticks, one that was not run has spent none; each has given as many
-- children as there are among the places.
abbrev pub dropped_in : {H : Type 0} → (place : H → List ℕ) → (places : List (List ℕ)) → List (Piece H) → List Progress
dropped_in place places [] = []
dropped_in place places (p ∷ ps) = if is_finished p.outcome then dropped_in place places ps else
    (record { place = place p.task; spent = ticks_spent p.outcome; given = children_in places (place p.task) } ∷ dropped_in place places ps)

abbrev pub state_of : {H : Type 0} → (place : H → List ℕ) → List (Piece H) → (total : ℕ) → State
state_of place ps total = record { workers = []; finished = finished_in place ps; dropped = dropped_in place (places_in place ps) ps; total = total }

-- A collection of the tree of a root's task that reads as a good state. Each piece has the task of the tree at its place, and what a
-- finished piece did is what its task does itself, cut at the limits.
pub record IsCollection {H : Type 0} (IsOwn : H → Type 0) (place : H → List ℕ) (own : H → Trace H) (root : H) (l : Limits)
    (ps : List (Piece H)) (total : ℕ) : Type 0 where
  pub own_root : IsOwn root
  pub own_tasks : All (λ p. IsOwn p.task) ps
  pub tasks : All (λ p. task_at own (Some root) (place p.task) ≡ Some p.task) ps
  pub outcomes : All (λ p. IfFinished (IsOutcome (own p.task) l) p.outcome) ps
  pub good : IsGood (facts_of own root l) l.ticks (state_of place ps total)

-- ---- claims

-- the places of the pieces that were run
abbrev pub if_run : Option Outcome → List ℕ → List (List ℕ) → List (List ℕ)
if_run None q qs = qs
if_run (Some o) q qs = q ∷ qs

abbrev pub claimed_in : {H : Type 0} → (place : H → List ℕ) → List (Piece H) → List (List ℕ)
claimed_in place [] = []
claimed_in place (p ∷ ps) = if_run p.outcome (place p.task) (claimed_in place ps)

-- The claims are of the pieces that were run, each as often as it is there: both weigh the same, whatever the weights are. They are
-- of so many workers, and the first of these claimed the root.
pub record AreClaims {H : Type 0} (place : H → List ℕ) (count : ℕ) (ps : List (Piece H)) (claims : List Claim) : Type 0 where
  pub places : (weight : List ℕ → ℕ) → total (λ c. weight c.place) claims ≡ total weight (claimed_in place ps)
  pub workers : All (λ c. c.worker < count) claims
  pub root : All (λ c. c.place ≡ [] → c.worker ≡ 0) claims
