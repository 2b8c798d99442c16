-- What is known of a module: its local bindings.
use Rattle.std.specs.Prelude.{length}
use Rattle.xs_compile.specs.declared.slots.Locals.{Locals}
use Rattle.xs_compile.specs.Locals.{AreLocals}
use Rattle.xs_modules.specs.Numbering.{ModuleData}
use Rattle.xs_tree.specs.Shape.{IsTree}

pub record HasLocals (d : ModuleData) (table : Locals) : Type 0 where
  pub tree : IsTree d.records
  pub locals : AreLocals d.records (length d.records) table
