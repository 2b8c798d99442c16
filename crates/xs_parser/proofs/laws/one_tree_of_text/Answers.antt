use Rattle.xs_parser.proofs.TextLemmas.{one-tree}
use Rattle.xs_parser.proofs.laws.one_tree_of_text.Goals as goal

pub returns : goal.returns
returns c = one-tree
