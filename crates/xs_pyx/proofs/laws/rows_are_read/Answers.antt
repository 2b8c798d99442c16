use Rattle.xs_pyx.proofs.LineLemmas as law
use Rattle.xs_pyx.proofs.laws.rows_are_read.Goals as goal

pub returns : goal.returns
returns c = law.rows_are_read
