-- Pieces that are run one after another.
use Rattle.std.specs.Prelude.{◌≡◌, ◌<◌, ◌≤◌, ◌+◌, ◌++◌, ◌∷◌, [], ℕ, zero, suc, length, get_or, List, map, Some, None, Bool, true, false}
use Rattle.std.specs.List.{All}
use Rattle.xs_trace.specs.Mark.{Trace}
use Rattle.xs_trace.specs.declared.item.Limits.{Limits}
use Rattle.xs_core.specs.Good.{total, children}
use Rattle.xs_record.specs.Outcome.{IsOutcome}
use Rattle.xs_record.specs.declared.outcome.Outcome.{Outcome}
use Rattle.xs_pieces.specs.Tree.{task_at, BeginsWithTick}
use Rattle.xs_pieces.specs.Collection.{is_finished, IfFinished, ticks_in, holes_in, places_in, finished_in, IsCollection}
use Rattle.xs_pieces.specs.declared.piece.Piece.{Piece}

-- a piece that was not run yet
abbrev pub waiting : {H : Type 0} → H → Piece H
waiting t = record { task = t; outcome = None }

-- the piece at an index did this
abbrev pub ran_at : {H : Type 0} → ℕ → Outcome → List (Piece H) → List (Piece H)
ran_at i o [] = []
ran_at zero o (p ∷ ps) = record { task = p.task; outcome = Some o } ∷ ps
ran_at (suc i) o (p ∷ ps) = p ∷ ran_at i o ps

-- Pieces of which the first n are finished, and the others wait. The places are the root and the children of what is finished, as
-- often, and so many ticks were spent.
pub record IsRun {H : Type 0} (IsOwn : H → Type 0) (place : H → List ℕ) (own : H → Trace H) (root : H) (l : Limits) (n t : ℕ)
    (ps : List (Piece H)) : Type 0 where
  pub own_root : IsOwn root
  pub own_tasks : All (λ p. IsOwn p.task) ps
  pub tasks : All (λ p. task_at own (Some root) (place p.task) ≡ Some p.task) ps
  pub outcomes : All (λ p. IfFinished (IsOutcome (own p.task) l) p.outcome) ps
  pub begin : All (λ p. BeginsWithTick (own p.task)) ps
  -- without ticks, the root alone is there
  pub alone : l.ticks ≡ 0 → length ps ≤ 1
  pub first : (k : ℕ) (d : Piece H) → k < n → is_finished (get_or ps k d).outcome ≡ true
  pub rest : (k : ℕ) (d : Piece H) → n ≤ k → k < length ps → (get_or ps k d).outcome ≡ None
  pub counted : (h : List ℕ → ℕ) →
      total h (places_in place ps) ≡ h [] + total (λ p. children h p (holes_in own l (task_at own (Some root) p))) (finished_in place ps)
  pub summed : t ≡ total (λ p. ticks_in own l (task_at own (Some root) p)) (finished_in place ps)

-- Pieces of which the first ones were run, with so many ticks and such a last answer of the total: a collection, if the total is
-- what was added, and is above the limit where the answer is.
abbrev pub IsRunTo : {H : Type 0} → (IsOwn : H → Type 0) → (place : H → List ℕ) → (own : H → Trace H) → (root : H) → Limits → (added last : ℕ) →
    List (Piece H) → Type 0
IsRunTo IsOwn place own root l added last ps = (l.ticks < last → l.ticks < added) → IsCollection IsOwn place own root l ps added

-- The piece at an index was run. Either it is finished, with a tick at least unless there are none, and its children wait; or it ended
-- in the total, and no child was added.
abbrev pub IsNext : {H : Type 0} → (IsOwn : H → Type 0) → (place : H → List ℕ) → (own : H → Trace H) → (root : H) → Limits → (index before after last : ℕ) →
    Bool → List (Piece H) → List (Piece H) → Type 0
IsNext IsOwn place own root l index before after last true old new = (o : Outcome) × (new ≡ ran_at index o old) × IsRunTo IsOwn place own root l after last new
IsNext {H = H} IsOwn place own root l index before after last false old new =
    (o : Outcome) × (ts : List H) × (new ≡ ran_at index o old ++ map waiting ts) × IsRun IsOwn place own root l (index + 1) after new × (last ≤ l.ticks)
    × (before ≤ after) × (0 < l.ticks → before < after)
