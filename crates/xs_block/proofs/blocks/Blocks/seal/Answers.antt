use Rattle.std.proofs.Common.{◌<◌, refl, sym, ap, ◌∙◌, arith}
use Rattle.xs_block.specs.Chain.{sealed, slots_of}
use Rattle.xs_block.proofs.BlockLemmas.{keep_last, on-err, one_vec, seal_last, slots_block}
use Rattle.xs_block.proofs.ChainLemmas.{all-emptied, one-less, sealed-none}
use Rattle.xs_block.proofs.blocks.Blocks.seal.Goals as goal

pub returns-then-slots-eq0-clause-sealed : goal.returns-then-slots-eq0-clause-sealed
returns-then-slots-eq0-clause-sealed g c = sym (sealed-none c.args.self.now (omega (arith, c.slots.ensures.slots, c.if-slots-eq0.true)))

pub seal_block-requires : goal.seal_block-requires
seal_block-requires g c =
    let some : 0 < slots_of c.args.self.now = omega (arith, c.slots.ensures.slots, c.if-slots-eq0.false) in
    record {
      slots = slots_block c.self.inside.list c.in-Some.block.now (rw c.self.view_is some) (c.in-Some.ensures.variant.0 refl) c.in-Some.ensures.value;
    }

pub returns-in_err-emptied-clause-refused : goal.returns-in_err-emptied-clause-refused
returns-in_err-emptied-clause-refused g c =
    on-err c.from_residual-in_err-emptied.result
    (keep_last c.self.inside.list c.in-Some.block.now c.seal_block.new.block c.in-Some.ensures.value c.in_err-emptied.ensures.refused ∙ c.self.view_is)

pub returns-clause-sealed : goal.returns-clause-sealed
returns-clause-sealed g c =
    seal_last c.self.inside.list c.in-Some.block.now c.seal_block.new.block (c.in-Some.ensures.variant.0 refl) c.in-Some.ensures.value
    c.in_ok-emptied.ensures.sealed
    ∙ ap (λ bs. sealed bs) c.self.view_is

pub returns-clause-emptied : goal.returns-clause-emptied
returns-clause-emptied g c = all-emptied _ (one_vec c.new-free.result c.in_ok-emptied.emptied c.new-free.ensures c.in_ok-emptied.ensures.emptied)

pub returns-clause-blocks : goal.returns-clause-blocks
returns-clause-blocks g c =
    let some : 0 < slots_of c.args.self.now = omega (arith, c.slots.ensures.slots, c.if-slots-eq0.false) in
    one-less _ _ c.args.self.now (one_vec c.new-free.result c.in_ok-emptied.emptied c.new-free.ensures c.in_ok-emptied.ensures.emptied)
    (returns-clause-sealed g c) some
