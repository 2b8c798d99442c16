-- Runs over nodes that are left to be evaluated apart.
use Rattle.std.specs.Prelude.{ℕ, zero, suc, ◌+◌, ◌-◌, List, [], ◌∷◌, ◌++◌, length, nat_le, Option, Some, None, if◌then◌else◌}
use Rattle.xs_sheet.specs.declared.body.Binding.{Binding}
use Rattle.xs_sheet.specs.declared.body.Body.{Body}
use Rattle.xs_sheet.specs.Sets.{is_same_label}
use Rattle.xs_trace.specs.Label.{Label}
use Rattle.xs_trace.specs.declared.item.Site.{Site}
use Rattle.xs_value.specs.declared.value.Value.{Value}
use Rattle.xs_body_spec.specs.declared.focus.Focus.{Focus}
use Rattle.xs_body_spec.specs.World.{World}

-- the parameters that are passed to a template, and their values, in order (XSLT 1.0, 11.6)
pub record Params : Type 0 where
  pub bindings : List Binding
  pub values : List Value

abbrev pub no_params : Params
no_params = record { bindings = []; values = [] }

-- the value that is passed for a name, or the one found before; of several of one name the last counts
abbrev pub last_passed : Label → Option Value → List Binding → List Value → Option Value
last_passed name found [] vs = found
last_passed name found (b ∷ bs) [] = found
last_passed name found (b ∷ bs) (v ∷ vs) = last_passed name (if is_same_label name b.name then Some v else found) bs vs

abbrev pub value_passed : Label → Params → Option Value
value_passed name ps = last_passed name None ps.bindings ps.values

-- what is done at each node of a run: a body, with the local variables that it sees (8), or templates in a mode, with what is
-- passed to them (5.4)
pub data Job : Type 0 where
  body_job : Body → (locals : List Value) → Job
  rules_job : (mode : ℕ) → Params → Job

-- A run over nodes, for an instruction. The first of them has this position; the focus has all that its nodes have in common.
pub record Task : Type 0 where
  pub job : Job
  pub site : Site
  pub focus : Focus
  pub first : ℕ
  pub nodes : List ℕ

-- a task that takes one node more, and the task after one, which begins with a node
abbrev pub with_node : Task → ℕ → Task
with_node t n = record { job = t.job; site = t.site; focus = t.focus; first = t.first; nodes = t.nodes ++ n ∷ [] }

abbrev pub task_behind : Task → ℕ → Task
task_behind t n = record { job = t.job; site = t.site; focus = t.focus; first = t.first + length t.nodes; nodes = n ∷ [] }

-- a task and those after it, for these nodes more: it takes so many of them, and each other one as many as the grain
abbrev pub shared : (grain room : ℕ) → Task → List ℕ → List Task
shared grain room t [] = t ∷ []
shared grain zero t (n ∷ ns) = t ∷ shared grain (grain - 1) (task_behind t n) ns
shared grain (suc room) t (n ∷ ns) = shared grain room (with_node t n) ns

-- the tasks for a run of nodes, one for each grain of them
abbrev pub tasks_for : (grain : ℕ) → Job → Site → Focus → List ℕ → List Task
tasks_for grain job p f ns = shared grain grain (record { job = job; site = p; focus = f; first = 1; nodes = [] }) ns

-- The grain, where a run has more nodes than that, outside captured content.
abbrev pub below : (size : ℕ) → Option ℕ → Option ℕ
below size None = None
below size (Some grain) = if nat_le size grain then None else Some grain

abbrev pub grain_over : World → Focus → (size : ℕ) → Option ℕ
grain_over w f size = if f.is_captured then None else below size w.grain
