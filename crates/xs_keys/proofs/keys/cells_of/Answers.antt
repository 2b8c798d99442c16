use Rattle.std.proofs.Common.{◌∙◌, ap, arith, sym}
use Rattle.xs_keys.specs.KeyTables.{with_name}
use Rattle.xs_keys.proofs.FindLemmas.{names-at}
use Rattle.xs_keys.proofs.keys.cells_of.Goals as goal

pub loop-decl-preserved : goal.loop-decl-preserved
loop-decl-preserved g c = record {
  names =
      c.in_ok-add_cell.ensures.names ∙ ap (λ names. with_name names c.decl-item.result) c.loop-decl.invariant.names
      ∙ names-at c.args.decls.now c.loop-decl.decl-index c.decl-item.result (omega arith) (sym c.decl-item.is);
  cells = c.in_ok-add_cell.ensures.cells;
}
