use Rattle.xs_pyx.proofs.LineLemmas as law
use Rattle.xs_pyx.proofs.laws.bytes_are_cut.Goals as goal

pub returns : goal.returns
returns c = law.bytes_are_cut
