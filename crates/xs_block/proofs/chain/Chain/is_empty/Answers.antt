use Rattle.xs_block.proofs.CutLemmas.{is-none, no-is}
use Rattle.xs_block.proofs.chain.Chain.is_empty.Goals as goal

pub returns : goal.returns
returns g c = record {
  empty = (
    is-none c.len.result c.self.inside.blocks c.args.self.now c.len.ensures.len c.self.view_is,
    no-is c.len.result c.self.inside.blocks c.args.self.now c.len.ensures.len c.self.view_is c.self.invariant,
  );
}
