-- The tree of tasks of a run of a stylesheet: tasks with their places.
use Rattle.std.specs.Prelude.{ℕ, suc, List, [], ◌∷◌, ◌++◌, None}
use Rattle.xs_trace.specs.Mark.{Tick, Put, Say, Stop, Need, Hole, Trace}
use Rattle.xs_body_spec.specs.Inside.{IsTaskIn}
use Rattle.xs_body_spec.specs.Ranks.{HasNodes}
use Rattle.xs_body_spec.specs.Tasks.{Task}
use Rattle.xs_body_spec.specs.Trace.{task_trace}
use Rattle.xs_body_spec.specs.World.{World, with_grain}

-- a task at a place
pub record Placed : Type 0 where
  pub place : List ℕ
  pub task : Task

abbrev pub at_place : List ℕ → Task → Placed
at_place p t = record { place = p; task = t }

-- the task of each hole at its place, that of the piece and then the number of the hole, from n on
abbrev pub placed_from : List ℕ → ℕ → Trace Task → Trace Placed
placed_from p n [] = []
placed_from p n (Tick s ∷ x) = Tick s ∷ placed_from p n x
placed_from p n (Put e ∷ x) = Put e ∷ placed_from p n x
placed_from p n (Say t ∷ x) = Say t ∷ placed_from p n x
placed_from p n (Stop f s ∷ x) = Stop f s ∷ placed_from p n x
placed_from p n (Need g s ∷ x) = Need g s ∷ placed_from p n x
placed_from p n (Hole c ∷ x) = Hole (at_place (p ++ n ∷ []) c) ∷ placed_from p (suc n) x

-- the marks of a trace that are no holes
abbrev pub marks : Trace Task → Trace Placed
marks [] = []
marks (Tick s ∷ x) = Tick s ∷ marks x
marks (Put e ∷ x) = Put e ∷ marks x
marks (Say t ∷ x) = Say t ∷ marks x
marks (Stop f s ∷ x) = Stop f s ∷ marks x
marks (Need g s ∷ x) = Need g s ∷ marks x
marks (Hole c ∷ x) = marks x

-- what a task does itself, with a hole for each task that it leaves
abbrev pub own : World → Placed → Trace Placed
own w t = placed_from t.place 0 (task_trace w t.task)

-- what a task does, with all that it leaves: what it does without a grain, which leaves nothing
abbrev pub whole : World → Placed → Trace Placed
whole w t = marks (task_trace (with_grain None w) t.task)

-- a task that has nodes, which are in the documents, as those of its values are
pub record IsOwn (w : World) (t : Placed) : Type 0 where
  pub nodes : HasNodes t.task.nodes
  pub inside : IsTaskIn w.tree t.task

-- tasks at their places below a place, by their numbers from n on
abbrev pub placed_tasks : List ℕ → ℕ → List Task → List Placed
placed_tasks p n [] = []
placed_tasks p n (t ∷ ts) = at_place (p ++ n ∷ []) t ∷ placed_tasks p (suc n) ts
