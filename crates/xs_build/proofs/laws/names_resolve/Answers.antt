use Rattle.xs_build.proofs.ResolvingLemmas as law
use Rattle.xs_build.proofs.laws.names_resolve.Goals as goal

pub returns : goal.returns
returns c = law.names_resolve
