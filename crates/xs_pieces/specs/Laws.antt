-- Laws of trees of pieces.
use Rattle.std.specs.Prelude.{◌≡◌, ◌<◌, ◌≤◌, ℕ, List, [], ◌∷◌, ◌++◌, Option, Some, true}
use Rattle.std.specs.List.{All, Contains}
use Rattle.xs_trace.specs.Mark.{Trace, tick_count}
use Rattle.xs_trace.specs.Cut.{Whole, cut}
use Rattle.xs_trace.specs.Fill.{fill}
use Rattle.xs_trace.specs.declared.item.Limits.{Limits}
use Rattle.xs_pieces.specs.Tree.{task_at, filled, tree_trace, Falls}
use Rattle.xs_core.specs.Good.{IsGood}
use Rattle.xs_pieces.specs.Collection.{is_finished, facts_of, places_in, state_of}
use Rattle.xs_pieces.specs.declared.piece.Piece.{Piece}

-- Where ranks fall, levels past the rank change nothing; the trace of a tree is that of its root's task with each hole filled by the
-- trace of the tree below it; and no other function is so. A child is one step further down.
pub record TreeLaws (H K : Type 0) : Type 0 where
  pub enough : (rank : H → ℕ) (own : H → Trace H) → Falls rank own → (t : H) (n m : ℕ) → rank t < n → rank t < m →
      filled {K = K} own n t ≡ filled own m t
  pub fills : (rank : H → ℕ) (own : H → Trace H) → Falls rank own → (t : H) →
      tree_trace {K = K} rank own t ≡ fill (tree_trace rank own) (own t)
  pub one : (rank : H → ℕ) (own : H → Trace H) → Falls rank own → (whole : H → Trace K) → ((t : H) → whole t ≡ fill whole (own t)) →
      (t : H) → whole t ≡ tree_trace rank own t
  pub child : (own : H → Trace H) (t : Option H) (p : List ℕ) (k : ℕ) →
      task_at own t (p ++ k ∷ []) ≡ task_at own (task_at own t p) (k ∷ [])

-- A collection of a whole run within its limits: the total is of all ticks, every piece is finished, and each place of the tree is there.
pub record IsComplete {H : Type 0} (place : H → List ℕ) (own whole : H → Trace H) (root : H) (l : Limits) (ps : List (Piece H)) (n : ℕ) : Type 0 where
  pub within : n ≤ l.ticks
  pub ticks : n ≡ tick_count (whole root)
  pub finished : All (λ p. is_finished p.outcome ≡ true) ps
  pub there : (p : List ℕ) (t : H) → task_at own (Some root) p ≡ Some t → Contains (places_in place ps) p

-- In a collection that reads as a good state: where all that the root's task does is within the limits, and does not stop, it is complete.
abbrev pub WholeIsComplete : Type 0 → Type 0
WholeIsComplete H = (place : H → List ℕ) (own whole : H → Trace H) → ((t : H) → whole t ≡ fill whole (own t)) →
    (root : H) (l : Limits) (ps : List (Piece H)) (total : ℕ) → All (λ p. task_at own (Some root) (place p.task) ≡ Some p.task) ps →
    IsGood (facts_of own root l) l.ticks (state_of place ps total) → (cut (whole root) l.ticks l.events).end ≡ Whole →
    IsComplete place own whole root l ps total
