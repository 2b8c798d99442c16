use Rattle.xs_block.proofs.ChainLemmas.{used-either}
use Rattle.xs_block.proofs.chain.Chain.seal.Goals as goal

pub invariant_of-self : goal.invariant_of-self
invariant_of-self g c = used-either c.seal.result c.seal.new.self c.self.inside.blocks c.seal.ensures.sealed c.seal.ensures.refused c.self.invariant
