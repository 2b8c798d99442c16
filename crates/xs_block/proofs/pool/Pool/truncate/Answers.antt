use Rattle.std.proofs.Common.{◌≡◌, ◌-◌, ap, ◌∙◌, arith}
use Rattle.xs_block.specs.Chain.{blocks_of, with_free}
use Rattle.xs_block.proofs.CutLemmas.{items-cut}
use Rattle.xs_block.proofs.pool.Pool.truncate.Goals as goal

pub returns-clause-items : goal.returns-clause-items
returns-clause-items g c = rw c.cut-rest.ensures.kept (items-cut c.args.n c.args.chain.now)

pub returns-clause-free : goal.returns-clause-free
returns-clause-free g c =
    let n : blocks_of c.cut-rest.result ≡ blocks_of c.args.chain.now - blocks_of c.cut-rest.new.self = omega (arith, c.cut-rest.ensures.rest) in
    c.free.ensures.free ∙ ap (λ k. with_free c.args.self.now k) n
