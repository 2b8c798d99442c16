-- What a context has to meet.
use Rattle.std.specs.Prelude.{◌<◌, All, List, length, Option, Some, None}
use Rattle.xs_tree.specs.Record.{Record}
use Rattle.xs_value.specs.declared.value.Value.{Value}
use Rattle.xs_value.specs.Conversion.{IsIn}
use Rattle.xs_value.specs.Tables.{Table, TablesIn}
use Rattle.xs_eval_spec.specs.Context.{Context}

-- a value, where there is one, has its nodes in the tree
abbrev pub IsInIf : List Record → Option Value → Type 0
IsInIf rs None = Unit {0}
IsInIf rs (Some v) = IsIn rs v

-- the nodes of a context, of its values and of the tables are in the tree
pub record IsContext (keys : List Table) (c : Context) : Type 0 where
  pub node : c.node < length c.tree
  pub current : c.current < length c.tree
  pub locals : All (IsIn c.tree) c.locals
  pub globals : All (IsInIf c.tree) c.globals
  pub tables : TablesIn c.tree keys
