-- A run that is left to tasks, node by node.
use Rattle.std.specs.Prelude.{ℕ, ◌-◌, ◌==◌, ◌++◌, List, length, map, if◌then◌else◌}
use Rattle.xs_trace.specs.Mark.{Hole}
use Rattle.xs_trace.specs.Play.{Step, Goes, Reported, play}
use Rattle.xs_trace.specs.State.{State, shown}
use Rattle.xs_body.specs.declared.tasks.Sharing as code
use Rattle.xs_body_spec.specs.Tasks.{Task, with_node, task_behind, shared}

-- a task that takes nodes, and how many more it may take
pub record Share : Type 0 where
  pub task : Task
  pub room : ℕ

abbrev pub share_of : code.Sharing → Share
share_of z = record { task = z.task; room = z.room }

-- one node more: where there is no room, the task is left to be done apart, and another takes the node
abbrev pub share_step : (grain : ℕ) → Share → ℕ → State Task → Step Task Share
share_step grain z n s =
    if z.room == 0 then Goes (record { task = task_behind z.task n; room = grain - 1 }) (shown (Hole z.task) s)
    else Goes (record { task = with_node z.task n; room = z.room - 1 }) s

-- nodes more, for which there is room
abbrev pub with_nodes : Task → List ℕ → Task
with_nodes t ns = record { job = t.job; site = t.site; focus = t.focus; first = t.first; nodes = t.nodes ++ ns }

abbrev pub filled : Share → List ℕ → Share
filled z ns = record { task = with_nodes z.task ns; room = z.room - length ns }

-- what is said of the nodes that are left
abbrev pub shares : (grain : ℕ) → Share → List ℕ → State Task → Reported Task
shares grain z ns s = play (map Hole (shared grain z.room z.task ns)) s
