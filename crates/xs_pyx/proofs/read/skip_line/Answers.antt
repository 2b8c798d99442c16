use Rattle.xs_pyx.proofs.RowLemmas.{rows_first}
use Rattle.xs_pyx.proofs.read.skip_line.Goals as goal

pub returns-clause-rows : goal.returns-clause-rows
returns-clause-rows c = rows_first c.args.bytes.now
