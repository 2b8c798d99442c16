use Rattle.xs_block.proofs.CutLemmas.{used-cut}
use Rattle.xs_block.proofs.chain.Chain.cut.Goals as goal

pub invariant_of-self : goal.invariant_of-self
invariant_of-self g c = rw c.cut.ensures.kept (used-cut c.args.n c.self.inside.blocks c.self.invariant)
