-- What a runner owes before it runs pieces.
use Rattle.std.specs.Prelude.{◌≡◌, ℕ, List, []}
use Rattle.xs_trace.specs.Mark.{Trace, NeedsNothing}
use Rattle.xs_trace.specs.Fill.{fill, HolesAre}
use Rattle.xs_pieces.specs.Tree.{ArePlaced, BeginsWithTick}

-- A runner that is ready, by which tasks are its own, their places, what each does itself, and what each does with all that it leaves.
pub record IsReady {H : Type 0} (IsOwn : H → Type 0) (place : H → List ℕ) (own whole : H → Trace H) : Type 0 where
  -- what a task of its own leaves is its own, in its place
  pub inside : (t : H) → IsOwn t → HolesAre IsOwn (own t)
  pub placed : (t : H) → IsOwn t → ArePlaced place (place t) 0 (own t)
  -- the root, and what a task leaves, begin with a tick
  pub root_begins : (t : H) → IsOwn t → place t ≡ [] → BeginsWithTick (own t)
  pub begins : (t : H) → IsOwn t → HolesAre (λ c. BeginsWithTick (own c)) (own t)
  -- no task needs a global that has no value
  pub needs_nothing : (t : H) → IsOwn t → NeedsNothing (own t)
  -- all that a task does is what it does itself, with each hole filled by all that is done there
  pub fills : (t : H) → whole t ≡ fill whole (own t)
  pub no_hole : (t : H) → HolesAre (λ c. ⊥) (whole t)
