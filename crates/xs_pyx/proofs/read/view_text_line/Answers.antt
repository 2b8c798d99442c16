use Rattle.std.proofs.Common.{rules}
use Rattle.xs_pyx.specs.Views.{line_shown}
use Rattle.xs_pyx.proofs.RowLemmas.{rows_first}
use Rattle.xs_pyx.proofs.LineLemmas.{finds-line}
use Rattle.xs_pyx.proofs.ViewLemmas.{view_finds}
use Rattle.xs_pyx.proofs.read.view_text_line.Goals as goal

pub returns-in_err-view-clause-rows : goal.returns-in_err-view-clause-rows
returns-in_err-view-clause-rows c = rows_first c.args.text.now

pub returns-clause-rows : goal.returns-clause-rows
returns-clause-rows c = rows_first c.args.text.now

pub returns-in_err-view-clause-lines : goal.returns-in_err-view-clause-lines
returns-in_err-view-clause-lines c = view_finds c.from_residual.result c.args.text.now (search rules)

pub returns-clause-lines : goal.returns-clause-lines
returns-clause-lines c = finds-line c.args.text.now (line_shown c.in_ok-view.view) _ (search rules)
