-- The ends of deques at which their workers give and take.
use Rattle.std.specs.Prelude.{◌≡◌, ◌+◌, ◌<◌, ◌++◌, ℕ, List, [], length}
use Rattle.std.specs.declared.alloc.Global.{Global}
use Rattle.crossbeam_deque.specs.declared.handles.Worker.{Worker}
use Rattle.crossbeam_deque.specs.Handles.{worker_flavor, worker_view}
use Rattle.xs_core.specs.Good.{total}
use Rattle.xs_pool.specs.declared.rule.Moves.{Moves}
use Rattle.xs_pool.specs.declared.rule.Balance.{Balance}
use Rattle.xs_pool.specs.Rule.{all_parts}

abbrev pub OwnerOf : Type 0 → Type 0 → Type 0
OwnerOf T K = Worker T Global (Moves T) (Balance K)

abbrev pub moves_of : {T K : Type 0} → OwnerOf T K → Moves T
moves_of {T = T} o = worker_view {V = Moves T} o

abbrev pub given_of : {T K : Type 0} → OwnerOf T K → List T
given_of o = (moves_of o).given

abbrev pub taken_of : {T K : Type 0} → OwnerOf T K → List T
taken_of o = (moves_of o).taken

abbrev pub parts_of : {T K : Type 0} → OwnerOf T K → ℕ
parts_of o = (moves_of o).parts

-- A deque of which so many rights were given to others, with which nothing was moved. Its worker takes the last task that it gave.
pub record IsOpen {T K : Type 0} (rights : ℕ) (o : OwnerOf T K) : Type 0 where
  pub last_in : worker_flavor o ≡ 1
  pub parts : parts_of o + rights ≡ all_parts
  pub given : given_of o ≡ []
  pub taken : taken_of o ≡ []

-- Tasks were given in this order, to a deque to which others were given before; those that it refused are kept. None is given where some
-- were kept.
pub record HasGiven {T : Type 0} (tasks before after kept left : List T) : Type 0 where
  pub given : List T
  pub refused : List T
  pub all : tasks ≡ given ++ refused
  pub gives : after ≡ before ++ given
  pub keeps : left ≡ kept ++ refused
  pub first : 0 < length given → kept ≡ []

-- what was given by some owners, and taken
abbrev pub all_given : {T K : Type 0} → (T → ℕ) → List (OwnerOf T K) → ℕ
all_given h os = total (λ o. total h (given_of o)) os

abbrev pub all_taken : {T K : Type 0} → (T → ℕ) → List (OwnerOf T K) → ℕ
all_taken h os = total (λ o. total h (taken_of o)) os
