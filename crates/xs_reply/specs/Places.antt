-- The places of the pieces of a run.
use Rattle.std.specs.Prelude.{ℕ, zero, suc, List, [], ◌∷◌, ◌++◌, map, Option, Some}
use Rattle.xs_body_spec.specs.Ranks.{rank_of}
use Rattle.xs_body_spec.specs.Tasks.{Task}
use Rattle.xs_body_spec.specs.Trace.{task_trace}
use Rattle.xs_body_spec.specs.World.{World}
use Rattle.xs_pieces.specs.Collection.{ticks_in}
use Rattle.xs_pieces.specs.Tree.{task_at}
use Rattle.xs_trace.specs.Cut.{cut}
use Rattle.xs_trace.specs.Fill.{tasks_of}
use Rattle.xs_trace.specs.Mark.{Trace}
use Rattle.xs_reply.specs.Answer.{Place}

-- the places below some tasks, which are numbered from n on
abbrev pub numbered_places : {H : Type 0} → (H → List Place) → ℕ → List H → List Place
numbered_places places n [] = []
numbered_places places n (t ∷ ts) = map (λ p. n ∷ p) (places t) ++ numbered_places places (suc n) ts

-- The places in so many levels of a tree of pieces, by the trace of each task with a hole for each task that it leaves: that of the
-- piece itself, then those below its first hole, and so on.
unfoldable pub tree_places : {H : Type 0} → (own : H → Trace H) → (levels : ℕ) → H → List Place
tree_places own zero t = []
tree_places own (suc n) t = [] ∷ numbered_places (tree_places own n) 0 (tasks_of (own t))

-- All places of a task of a stylesheet: ranks fall from a task to those that it leaves.
abbrev pub task_places : World → Task → List Place
task_places w t = tree_places (task_trace w) (suc (rank_of w t)) t

-- Those to which holes lead of what each piece does, cut at limits on ticks and events.
abbrev pub reached_places : World → (limit : ℕ) → (most : Option ℕ) → Task → List Place
reached_places w limit most t = tree_places (λ k. (cut (task_trace w k) limit most).passed) (suc (rank_of w t)) t

-- how many ticks the piece at a place takes itself, cut at the limits
abbrev pub taken_at : World → (limit : ℕ) → (most : Option ℕ) → Task → Place → ℕ
taken_at w limit most t p = ticks_in (task_trace w) (record { ticks = limit; events = most }) (task_at (task_trace w) (Some t) p)
