use Rattle.xs_pyx.proofs.ReadLemmas.{row_of_text, row_of_no_text}
use Rattle.xs_pyx.proofs.read.view_row.Goals as goal

pub returns-in-Ok : goal.returns-in-Ok
returns-in-Ok c =
    row_of_text c.view_text.result c.in-Ok.text.now c.args.bytes.now c.args.ended c.in-Ok.ensures.cases.0 c.in-Ok.ensures.cases.1 c.view_text.ensures

pub returns-in-Err : goal.returns-in-Err
returns-in-Err c = row_of_no_text c.args.bytes.now c.args.ended c.in-Err.ensures.cases.0
