-- What a run knows of the tasks that come by its deques.
use Rattle.std.specs.Prelude.{◌≡◌, ℕ, List, [], Some}
use Rattle.xs_trace.specs.Mark.{Trace}
use Rattle.xs_trace.specs.Fill.{HolesAre}
use Rattle.xs_pieces.specs.Tree.{task_at, BeginsWithTick}

-- A task that fits is the runner's own, and begins with a tick; what it leaves may wait. What may wait fits, and is not the root.
pub record IsKnown {H : Type 0} (IsOwn : H → Type 0) (place : H → List ℕ) (own : H → Trace H) (Fits Waits : H → Type 0) : Type 0 where
  pub is_own : (t : H) → Fits t → IsOwn t
  pub begins : (t : H) → Fits t → BeginsWithTick (own t)
  pub children : (t : H) → Fits t → HolesAre Waits (own t)
  pub fits : (t : H) → Waits t → Fits t
  pub below : (t : H) → Waits t → place t ≡ [] → ⊥

-- A task of the tree below a root, at its place, that begins with a tick. In `run_pool` these fit.
abbrev pub IsInTree : {H : Type 0} → (IsOwn : H → Type 0) → (H → List ℕ) → (own : H → Trace H) → H → H → Type 0
IsInTree IsOwn place own root t = IsOwn t × ((task_at own (Some root) (place t) ≡ Some t) × BeginsWithTick (own t))

-- One that is not the root. In `run_pool` each task in a deque is such a one.
abbrev pub IsBelow : {H : Type 0} → (IsOwn : H → Type 0) → (H → List ℕ) → (own : H → Trace H) → H → H → Type 0
IsBelow IsOwn place own root t = IsInTree IsOwn place own root t × (place t ≡ [] → ⊥)
