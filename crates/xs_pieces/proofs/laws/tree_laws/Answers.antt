use Rattle.xs_pieces.proofs.TreeLemmas.{tree-laws}
use Rattle.xs_pieces.proofs.laws.tree_laws.Goals as goal

pub returns : goal.returns
returns g c = tree-laws _ _
