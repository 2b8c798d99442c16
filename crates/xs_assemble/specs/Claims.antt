-- The claims of a run in pieces, and what they gave.
use Rattle.std.specs.Prelude.{◌≡◌, ◌<◌, ◌≤◌, ◌+◌, ◌*◌, ◌++◌, ◌∷◌, [], ℕ, List, map, Option, Some}
use Rattle.std.specs.Cmp.Lexicographic.{slice_cmp}
use Rattle.std.specs.List.{All, Contains}
use Rattle.std.specs.List.Sorted.{IsSortedBy}
use Rattle.std.specs.Ordering.{is_lt, nat_cmp}
use Rattle.xs_trace.specs.Mark.{Trace}
use Rattle.xs_trace.specs.declared.item.Limits.{Limits}
use Rattle.xs_core.specs.declared.place.Claim.{Claim}
use Rattle.xs_core.specs.Good.{total, is_place}
use Rattle.xs_record.specs.declared.outcome.Outcome.{Outcome}
use Rattle.xs_pieces.specs.Tree.{task_at}
use Rattle.xs_pieces.specs.Collection.{holes_in, ticks_in, AreClaims, IsCollection}
use Rattle.xs_pieces.specs.declared.piece.Piece.{Piece}
use Rattle.xs_assemble.specs.Inline.{inline_in}
use Rattle.xs_assemble.specs.Reading.{read, whole_at, Finds}
use Rattle.xs_assemble.specs.declared.assembled.Executed.{Executed}

abbrev pub claimed_places : List Claim → List (List ℕ)
claimed_places cs = map (λ c. c.place) cs

-- Claims of the tree of a root's task by so many workers, in the order of places: each place at most once, and no other place. The
-- first worker claimed the root.
pub record AreOfTree {H : Type 0} (own : H → Trace H) (root : H) (count : ℕ) (cs : List Claim) : Type 0 where
  pub sorted : IsSortedBy (λ c d. is_lt (slice_cmp nat_cmp c.place d.place)) cs
  pub workers : All (λ c. c.worker < count) cs
  pub first : All (λ c. c.place ≡ [] → c.worker ≡ 0) cs
  pub once : (p : List ℕ) → total (is_place p) (claimed_places cs) ≤ 1
  pub there : All (λ c. (t : H) × (task_at own (Some root) c.place ≡ Some t)) cs

-- each place of the tree is claimed
abbrev pub AreAll : {H : Type 0} → (own : H → Trace H) → H → List Claim → Type 0
AreAll {H = H} own root cs = (p : List ℕ) (t : H) → task_at own (Some root) p ≡ Some t → Contains (claimed_places cs) p

-- a place to which holes lead from the root: each number in it is of a hole of the piece before it, cut at the limits
abbrev pub IsReached : {H : Type 0} → (own : H → Trace H) → H → Limits → List ℕ → Type 0
IsReached own root l p = (q : List ℕ) (k : ℕ) (r : List ℕ) → p ≡ q ++ (k ∷ r) → k < holes_in own l (task_at own (Some root) q)

-- the ticks of the claimed pieces, each of which takes what its task does itself, cut at the limits
abbrev pub claimed_ticks : {H : Type 0} → (own : H → Trace H) → H → Limits → List Claim → ℕ
claimed_ticks own root l cs = total (λ p. ticks_in own l (task_at own (Some root) p)) (claimed_places cs)

-- What came of a run by so many workers is what a collection of the tree came to: its claims are of the pieces that were run there, and
-- the missing pieces that its reading reaches were run in their place. All ticks are those of the collection, which are at most the limit
-- and 1,024 for each worker, and of these.
pub record IsJoined {H : Type 0} (IsOwn : H → Type 0) (place : H → List ℕ) (own whole : H → Trace H) (root : H) (l : Limits)
    (count : ℕ) (e : Executed) : Type 0 where
  pub pieces : List (Piece H)
  pub spent : ℕ
  pub collection : IsCollection IsOwn place own root l pieces spent
  pub few : spent ≤ l.ticks + 1024 * count
  pub claims : AreClaims place count pieces e.claims.items
  pub worked : e.worked ≡ spent + e.assembled.inline_ticks
  pub inline : (find : List ℕ → Option Outcome) (depth : ℕ) → Finds place pieces find depth →
      inline_in (whole_at own whole root) (read find depth []) l.ticks l.events
      ≡ record { count = e.assembled.inline; ticks = e.assembled.inline_ticks }
