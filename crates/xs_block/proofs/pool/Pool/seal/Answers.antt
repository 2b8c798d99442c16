use Rattle.std.proofs.Common.{ap, ◌∙◌}
use Rattle.xs_block.specs.Chain.{items_of}
use Rattle.xs_block.proofs.ChainLemmas.{items-sealed}
use Rattle.xs_block.proofs.pool.Pool.seal.Goals as goal

pub returns-clause-items : goal.returns-clause-items
returns-clause-items g c = ap (λ bs. items_of bs) c.in_ok-seal.ensures.sealed ∙ items-sealed c.args.chain.now
