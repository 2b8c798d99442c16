use Rattle.xs_parser.proofs.PieceLemmas.{cut-Pieces, Pieces-cut}
use Rattle.xs_parser.proofs.laws.templates_are_cut.Goals as goal

pub returns : goal.returns
returns c = λ text ps. (cut-Pieces 0 text ps, Pieces-cut 0 text ps)
