-- The rule of a deque. A worker gives tasks to its deque and takes the last of them, and thieves take the first: between any two moves
-- what was given is what was taken and what the deque holds, as often, however tasks are weighed.
use Rattle.std.specs.Prelude.{◌≡◌, ℕ, ◌+◌, ◌++◌, List}
use Rattle.std.specs.List.{All}
use mathlib.Core.Option.{some}
use lib.ListN.{get_elem?}
use Rattle.xs_core.specs.Good.{total}
use Rattle.xs_pool.specs.declared.rule.Moves.{Moves}

-- how many parts the right to know all moves has
abbrev pub all_parts : ℕ
all_parts = 1024

abbrev pub moves : {T : Type 0} → ℕ → List T → List T → Moves T
moves parts given taken = record { parts = parts; given = given; taken = taken }

-- the moves with two passes
abbrev pub joined : {T : Type 0} → Moves T → Moves T → Moves T
joined v w = moves (v.parts + w.parts) (v.given ++ w.given) (v.taken ++ w.taken)

-- with a pass that has no part nothing was moved
abbrev pub IsIdle : {T : Type 0} → Moves T → Type 0
IsIdle {T = T} v = (h : T → ℕ) → v.parts ≡ 0 → (total h v.given ≡ 0) × (total h v.taken ≡ 0)

-- the rule
pub record IsBalanced {T : Type 0} (Waits : T → Type 0) (held : List T) (passes : List (Moves T)) : Type 0 where
  pub parts : total (λ v. v.parts) passes ≡ all_parts
  pub even : (h : T → ℕ) → total (λ v. total h v.given) passes ≡ total (λ v. total h v.taken) passes + total h held
  pub idle : (port : ℕ) (v : Moves T) → get_elem? passes port ≡ some v → IsIdle v
  pub known : All Waits held

-- tasks were taken, each of which may wait
abbrev pub IsTaken : {T : Type 0} → (Waits : T → Type 0) → Moves T → List T → Moves T → Type 0
IsTaken Waits v xs w = (w ≡ moves v.parts v.given (v.taken ++ xs)) × All Waits xs

-- all that was given was taken
abbrev pub IsSpent : {T : Type 0} → Moves T → Type 0
IsSpent {T = T} v = (h : T → ℕ) → total h v.given ≡ total h v.taken
