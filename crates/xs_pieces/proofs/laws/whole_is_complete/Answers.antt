use Rattle.xs_pieces.proofs.CollectionLemmas.{whole-is-complete}
use Rattle.xs_pieces.proofs.laws.whole_is_complete.Goals as goal

pub returns : goal.returns
returns g c = whole-is-complete _
