use Rattle.xs_keys.proofs.FindLemmas.{cell-added}
use Rattle.xs_keys.proofs.keys.add_cell.Goals as goal

pub returns-clause-cells : goal.returns-clause-cells
returns-clause-cells g c =
    cell-added c.args.hashed.now.tree.now c.args.decls.now c.args.cells.now.items c.push.new.self.items c.in_ok-cell.cell c.in_ok-own.own
    c.in_ok-push.ensures.items c.in_ok-cell.ensures.name c.requires.cells c.in_ok-cell.ensures.cell
