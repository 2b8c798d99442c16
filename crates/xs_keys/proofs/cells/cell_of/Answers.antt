use Rattle.std.proofs.Common.{◌∙◌, Bool, List, Option, Vec, ap, subst, sym}
use Rattle.std.specs.declared.alloc.Global.{Global}
use Rattle.xs_sheet.specs.declared.declarations.KeyDecl.{KeyDecl}
use Rattle.xs_keys.specs.steps.Cells.{IsCell}
use Rattle.xs_keys.specs.steps.Pairs.{AreMatchTables, decls_in}
use Rattle.xs_keys.proofs.cells.cell_of.Goals as goal

pub fill-requires-clause-tables : goal.fill-requires-clause-tables
fill-requires-clause-tables g c κs within =
    subst (λ (ms : List (Option (Vec Bool Global))). AreMatchTables c.args.hashed.now.tree.now (decls_in c.as_slice-members.result.now) ms)
    (sym c.as_slice-tables.ensures.value) c.in_ok-list.ensures

pub returns-clause-cell : goal.returns-clause-cell
returns-clause-cell g c =
    subst (λ (ds : List KeyDecl). IsCell c.args.hashed.now.tree.now ds c.fill.new.self)
    (ap decls_in c.as_slice-members.ensures.value ∙ c.in_ok-own.ensures) c.in_ok-fill.ensures.cell
