use Rattle.xs_block.proofs.ChainLemmas.{used-with_last}
use Rattle.xs_block.proofs.chain.Chain.push.Goals as goal

pub invariant_of-self : goal.invariant_of-self
invariant_of-self g c = rw c.push.ensures.pushed (used-with_last c.args.item c.self.inside.blocks c.self.invariant)
