-- Rights to take from deques, one for each of them.
use Rattle.std.specs.Prelude.{◌≡◌, ◌<◌, ℕ, List, [], length, get_or, None}
use Rattle.std.specs.List.{All}
use Rattle.std.specs.declared.alloc.Global.{Global}
use Rattle.atomic_blocks.specs.Lent.{RowsId}
use Rattle.crossbeam_deque.specs.Handles.{Pass, view}
use Rattle.xs_core.specs.Good.{total}
use Rattle.xs_pool.specs.declared.rule.Moves.{Moves}

-- which deque it is
abbrev pub DequeId : Type 0
DequeId = RowsId × Global

-- a right to take from a deque
abbrev pub RightOf : Type 0 → Type 0
RightOf T = Pass T (Moves T) Global

abbrev pub moves_by : {T : Type 0} → RightOf T → Moves T
moves_by {T = T} r = view {V = Moves T} r

abbrev pub deque_of_right : {T : Type 0} → RightOf T → DequeId
deque_of_right r = (r.rows, r.heap)

-- a right has one part, gives nothing, and carries nothing
pub record IsRight {T : Type 0} (r : RightOf T) : Type 0 where
  pub hand : r.me.hand ≡ None
  pub spare : r.me.spare ≡ None
  pub part : (moves_by r).parts ≡ 1
  pub given : (moves_by r).given ≡ []

-- rights to the first of some deques, in their order
pub record AreRights {T : Type 0} (deques : List DequeId) (rs : List (RightOf T)) : Type 0 where
  pub each : All IsRight rs
  pub deque : (k : ℕ) (r : RightOf T) → k < length rs → (d : DequeId) → deque_of_right (get_or rs k r) ≡ get_or deques k d

-- what was taken with some rights
abbrev pub stolen_by : {T : Type 0} → (T → ℕ) → List (RightOf T) → ℕ
stolen_by h rs = total (λ r. total h (moves_by r).taken) rs
