use Rattle.std.proofs.Common.{◌≡◌, All, take}
use Rattle.xs_keys.specs.KeyTables.{names_of}
use Rattle.xs_keys.specs.steps.Cells.{IsCellOf, names_in}
use Rattle.xs_keys.proofs.keys.cells_of.Given as goal

-- a key for each name of the declarations that were passed
abbrev pub invariant-loop-decl : goal.invariant-loop-decl
invariant-loop-decl g l = record {
  names : names_in l.cells.items ≡ names_of (take l.decl-index l.decls);
  cells : All (IsCellOf l.tree l.decls) l.cells.items;
}
