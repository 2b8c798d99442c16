-- Workers before they have run anything.
use Rattle.std.specs.Prelude.{◌≡◌, ◌<◌, ◌+◌, ℕ, List, [], length, get_or}
use Rattle.crossbeam_deque.specs.Handles.{worker_flavor}
use Rattle.atomic_table.specs.Seated.{TableId}
use Rattle.xs_ledger.specs.Shares.{IsShareOf, IsUnused}
use Rattle.xs_ledger.specs.declared.ledger.Share.{Share}
use Rattle.xs_ledger.specs.declared.total.LedgerTotal.{LedgerTotal}
use Rattle.xs_pieces.specs.declared.piece.Desk.{Desk}
use Rattle.xs_pool.specs.declared.member.Member.{Member}
use Rattle.xs_pool.specs.Owners.{given_of, parts_of, taken_of}
use Rattle.xs_pool.specs.Rights.{stolen_by, AreRights, DequeId, RightOf}
use Rattle.xs_pool.specs.Rule.{all_parts}
use Rattle.xs_pool.specs.Workers.{added_of, last_of, ledger_of, most_of}

-- a right to each of some deques, with which nothing was taken
pub record IsRow {T : Type 0} (deques : List DequeId) (rs : List (RightOf T)) : Type 0 where
  pub rights : AreRights deques rs
  pub full : length rs ≡ length deques
  pub unused : (h : T → ℕ) → stolen_by h rs ≡ 0

-- a share of this ledger that has added nothing
pub record IsFree (id : TableId) (s : Share) : Type 0 where
  pub share : IsShareOf id s
  pub unused : IsUnused s

-- a desk with such a share
pub record IsFresh (id : TableId) (most : ℕ) (d : Desk LedgerTotal) : Type 0 where
  pub ledger : ledger_of d.share ≡ id
  pub bound : most_of d.share ≡ most
  pub added : added_of d.share ≡ 0
  pub last : last_of d.share ≡ 0

-- One of so many workers, that has run nothing.
pub record IsNew {T K : Type 0} (id : TableId) (most count : ℕ) (deques : List DequeId) (m : Member T K) : Type 0 where
  pub number : m.number < count
  pub last_in : worker_flavor m.deque ≡ 1
  pub parts : parts_of m.deque + length deques ≡ all_parts
  pub given : given_of m.deque ≡ []
  pub taken : taken_of m.deque ≡ []
  pub row : IsRow deques m.rights.items
  pub kept : m.kept.items ≡ []
  pub pieces : m.log.pieces.items ≡ []
  pub claims : m.log.claims.items ≡ []
  pub desk : IsFresh id most m.desk

-- so many workers, the last one first, by their numbers
abbrev pub AreNumbered : {T K : Type 0} → ℕ → List (Member T K) → Type 0
AreNumbered {T = T} {K = K} count ms = (k : ℕ) (m : Member T K) → k < length ms → (get_or ms k m).number + (k + 1) ≡ count
