-- Workers, while they run pieces.
use Rattle.std.specs.Prelude.{◌≡◌, ◌<◌, ◌≤◌, ◌+◌, ℕ, List, length, get_or}
use Rattle.std.specs.List.{All}
use Rattle.crossbeam_deque.specs.Handles.{worker_deque, worker_flavor}
use Rattle.atomic_table.specs.Seated.{TableId}
use Rattle.xs_trace.specs.Mark.{Trace}
use Rattle.xs_trace.specs.declared.item.Limits.{Limits}
use Rattle.xs_core.specs.Good.{total}
use Rattle.xs_ledger.specs.Additions.{last_answer}
use Rattle.xs_ledger.specs.Shares.{additions, own, share_ledger_id}
use Rattle.xs_ledger.specs.declared.total.LedgerTotal.{LedgerTotal}
use Rattle.xs_pieces.specs.declared.piece.Desk.{Desk}
use Rattle.xs_pool.specs.declared.log.Log.{Log}
use Rattle.xs_pool.specs.declared.member.Member.{Member}
use Rattle.xs_pool.specs.Logs.{all_left, run_in, spent_in, stopped_in, IsLog}
use Rattle.xs_pool.specs.Owners.{given_of, parts_of, taken_of}
use Rattle.xs_pool.specs.Rights.{stolen_by, AreRights, DequeId}
use Rattle.xs_pool.specs.Rule.{all_parts}

-- of a share in the total: its limit, its ledger, what it has added, and the answer to its last addition
abbrev pub most_of : LedgerTotal → ℕ
most_of t = t.limit

abbrev pub ledger_of : LedgerTotal → TableId
ledger_of t = share_ledger_id t.share

abbrev pub added_of : LedgerTotal → ℕ
added_of t = own t.share

abbrev pub last_of : LedgerTotal → ℕ
last_of t = last_answer (additions t.share)

abbrev pub deque_of : {T K : Type 0} → Member T K → DequeId
deque_of m = worker_deque m.deque

-- the weights of what a worker has given and keeps
abbrev pub given_in : {T K : Type 0} → (T → ℕ) → Member T K → ℕ
given_in h m = total h (given_of m.deque) + total h m.kept.items

-- of what it has taken
abbrev pub taken_in : {T K : Type 0} → (T → ℕ) → Member T K → ℕ
taken_in h m = total h (taken_of m.deque) + stolen_by h m.rights.items

-- of what it has run, given and keeps
abbrev pub held_by : {T K : Type 0} → (T → ℕ) → Member T K → ℕ
held_by h m = run_in h m.log.pieces.items + given_in h m

-- and of what came to it: what it has taken, and what its finished pieces left
abbrev pub came_to : {T K : Type 0} → (T → ℕ) → (own : T → Trace T) → Limits → Member T K → ℕ
came_to h own l m = taken_in h m + all_left h own l m.log.pieces.items

-- One of so many workers, that take tasks from these deques. It takes the last task that it gave, its claims have its number, and at most one
-- of its pieces ended in the total.
pub record IsWorking {T K : Type 0} (place : T → List ℕ) (own : T → Trace T) (Fits Waits : T → Type 0) (l : Limits) (count : ℕ)
    (deques : List DequeId) (m : Member T K) : Type 0 where
  pub number : m.number < count
  pub last_in : worker_flavor m.deque ≡ 1
  pub parts : parts_of m.deque + length deques ≡ all_parts
  pub rights : AreRights deques m.rights.items
  pub full : length m.rights.items ≡ length deques
  pub kept : All Waits m.kept.items
  pub bound : most_of m.desk.share ≡ l.ticks
  pub log : IsLog place own Fits l count m.log.pieces.items m.log.claims.items
  pub mine : All (λ c. c.worker ≡ m.number) m.log.claims.items
  pub spent : spent_in m.log.pieces.items ≡ added_of m.desk.share
  pub stopped : last_of m.desk.share ≤ l.ticks → stopped_in m.log.pieces.items ≡ 0
  pub once : stopped_in m.log.pieces.items ≤ 1

-- What no turn of a worker changes: its number, its deque, its ledger, and what it holds beside what came to it.
pub record IsSame {T K : Type 0} (own : T → Trace T) (l : Limits) (m n : Member T K) : Type 0 where
  pub number : n.number ≡ m.number
  pub deque : deque_of n ≡ deque_of m
  pub share : ledger_of n.desk.share ≡ ledger_of m.desk.share
  pub tally : (h : T → ℕ) → held_by h n + came_to h own l m ≡ came_to h own l n + held_by h m

-- No piece of a log ended in the total where the last addition at the desk of the same number is within a limit.
abbrev pub HaveStopped : {T : Type 0} → ℕ → List (Desk LedgerTotal) → List (Log T) → Type 0
HaveStopped {T = T} limit ds gs = (k : ℕ) (d : Desk LedgerTotal) (g : Log T) → k < length gs → last_of (get_or ds k d).share ≤ limit →
    stopped_in (get_or gs k g).pieces.items ≡ 0

-- each of some workers has worked
pub record HaveWorked {T K : Type 0} (place : T → List ℕ) (own : T → Trace T) (Fits Waits : T → Type 0) (l : Limits) (count : ℕ)
    (deques : List DequeId) (ms ns : List (Member T K)) : Type 0 where
  pub many : length ns ≡ length ms
  pub works : All (IsWorking place own Fits Waits l count deques) ns
  pub same : (k : ℕ) (m n : Member T K) → k < length ns → IsSame own l (get_or ms k m) (get_or ns k n)
