use Rattle.xs_pool.proofs.RunLemmas.{ran-set}
use Rattle.xs_pool.proofs.next.set_outcome.Goals as goal

pub returns : goal.returns
returns g c = record { ran = ran-set c.args.pieces.now.items c.args.index c.index_mut.result.now c.args.outcome c.requires.within c.index_mut.ensures.value }
