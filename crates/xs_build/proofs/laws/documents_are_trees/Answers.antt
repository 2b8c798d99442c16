use Rattle.xs_build.proofs.WellFormedLemmas.DocumentLemmas as law
use Rattle.xs_build.proofs.laws.documents_are_trees.Goals as goal

pub returns : goal.returns
returns c = law.documents_are_trees
