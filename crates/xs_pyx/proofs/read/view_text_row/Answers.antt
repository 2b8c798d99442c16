use Rattle.std.proofs.Common.{refl}
use Rattle.xs_pyx.proofs.ReadLemmas.{row_of_text}
use Rattle.xs_pyx.proofs.read.view_text_row.Goals as goal

pub returns : goal.returns
returns c = row_of_text c.view_found.result c.args.text.now c.args.text.now c.args.ended refl c.utf8.text c.view_found.ensures
