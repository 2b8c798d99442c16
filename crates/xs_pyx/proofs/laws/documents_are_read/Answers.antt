use Rattle.xs_pyx.proofs.LineLemmas as law
use Rattle.xs_pyx.proofs.laws.documents_are_read.Goals as goal

pub returns : goal.returns
returns c = law.documents_are_read
