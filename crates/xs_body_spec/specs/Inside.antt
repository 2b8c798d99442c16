-- What has to be in the tree: the nodes of what a stylesheet is evaluated over, and of a task.
use Rattle.std.specs.Prelude.{ℕ, ◌<◌, All, List, length}
use Rattle.xs_eval_spec.specs.Conditions.{IsInIf}
use Rattle.xs_attribute_sets.specs.Indexed.{IsSetIndex}
use Rattle.xs_sheet.specs.Sound.{IsSound}
use Rattle.xs_tree.specs.Record.{Record}
use Rattle.xs_value.specs.declared.value.Value.{Value}
use Rattle.xs_value.specs.Conversion.{IsIn}
use Rattle.xs_value.specs.Tables.{TablesIn}
use Rattle.xs_body_spec.specs.Tasks.{Job, body_job, rules_job, Task}
use Rattle.xs_body_spec.specs.World.{World}

-- the stylesheet is sound, and the index is that of its attribute sets; the nodes of the globals' values and of the keys' tables are in
-- the tree
pub record IsWorld (w : World) : Type 0 where
  pub sheet : IsSound w.sheet
  pub sets : IsSetIndex w.sheet.sets w.index
  pub globals : All (IsInIf w.tree) w.globals
  pub tables : TablesIn w.tree w.keys

-- nodes, and values with all of theirs
abbrev pub AreNodes : List Record → List ℕ → Type 0
AreNodes rs ns = All (λ n. n < length rs) ns

abbrev pub AreValues : List Record → List Value → Type 0
AreValues rs vs = All (IsIn rs) vs

-- those of a job and of a task
abbrev pub IsJobIn : List Record → Job → Type 0
IsJobIn rs (body_job body vs) = AreValues rs vs
IsJobIn rs (rules_job mode ps) = AreValues rs ps.values

pub record IsTaskIn (rs : List Record) (t : Task) : Type 0 where
  pub job : IsJobIn rs t.job
  pub nodes : AreNodes rs t.nodes
