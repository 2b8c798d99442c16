-- Trees of pieces. The task of a piece does some marks itself, and leaves a hole for each further task.
use Rattle.std.specs.Prelude.{◌≡◌, ◌<◌, ℕ, zero, suc, List, [], ◌∷◌, ◌++◌, slice_get, Option, Some, None}
use Rattle.xs_trace.specs.Mark.{Tick, Put, Say, Stop, Need, Hole, Trace}
use Rattle.xs_trace.specs.Fill.{fill, tasks_of, HolesAre}

-- The task at a place below a task: the root has the empty place, and the child k is the task of the k-th hole, counted from 0
-- through the whole piece.
abbrev pub task_at : {H : Type 0} → (own : H → Trace H) → Option H → List ℕ → Option H
task_at own t [] = t
task_at own None (k ∷ p) = None
task_at own (Some t) (k ∷ p) = task_at own (slice_get (tasks_of (own t)) k) p

-- the trace of a task, if there is one
abbrev pub or_nothing : {H K : Type 0} → (H → Trace K) → Option H → Trace K
or_nothing f None = []
or_nothing f (Some t) = f t

-- so many levels of a tree, each hole filled by the trace of its task
abbrev pub filled : {H K : Type 0} → (own : H → Trace H) → (levels : ℕ) → H → Trace K
filled own zero t = []
filled own (suc n) t = fill (filled own n) (own t)

-- ranks fall from a task to those that it leaves
abbrev pub Falls : {H : Type 0} → (rank : H → ℕ) → (own : H → Trace H) → Type 0
Falls {H = H} rank own = (t : H) → HolesAre (λ c. rank c < rank t) (own t)

-- the trace of a tree in which ranks fall
abbrev pub tree_trace : {H K : Type 0} → (rank : H → ℕ) → (own : H → Trace H) → H → Trace K
tree_trace rank own t = filled own (suc (rank t)) t

-- each hole's task is at its place, that of the piece and then the number of the hole, from n on
abbrev pub ArePlaced : {H : Type 0} → (place : H → List ℕ) → List ℕ → ℕ → Trace H → Type 0
ArePlaced place p n [] = Unit {0}
ArePlaced place p n (Tick s ∷ x) = ArePlaced place p n x
ArePlaced place p n (Put e ∷ x) = ArePlaced place p n x
ArePlaced place p n (Say t ∷ x) = ArePlaced place p n x
ArePlaced place p n (Stop f s ∷ x) = ArePlaced place p n x
ArePlaced place p n (Need g s ∷ x) = ArePlaced place p n x
ArePlaced place p n (Hole c ∷ x) = (place c ≡ p ++ n ∷ []) × ArePlaced place p (suc n) x

-- the first mark is a tick
abbrev pub BeginsWithTick : {H : Type 0} → Trace H → Type 0
BeginsWithTick [] = ⊥
BeginsWithTick (Tick p ∷ x) = Unit {0}
BeginsWithTick (Put e ∷ x) = ⊥
BeginsWithTick (Say t ∷ x) = ⊥
BeginsWithTick (Stop f p ∷ x) = ⊥
BeginsWithTick (Need g p ∷ x) = ⊥
BeginsWithTick (Hole k ∷ x) = ⊥
