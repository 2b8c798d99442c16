use Rattle.xs_pyx.specs.Views.{bytes_left}
use Rattle.xs_pyx.proofs.RowLemmas.{rows_first}
use Rattle.xs_pyx.proofs.rest.Rest.plain_line.Goals as goal

pub returns-in-Text-clause-rows : goal.returns-in-Text-clause-rows
returns-in-Text-clause-rows c = rows_first (bytes_left c.args.self)

pub returns-in-Bytes-clause-rows : goal.returns-in-Bytes-clause-rows
returns-in-Bytes-clause-rows c = rows_first (bytes_left c.args.self)
