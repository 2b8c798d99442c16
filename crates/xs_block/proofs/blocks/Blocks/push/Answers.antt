use Rattle.std.proofs.Common.{refl, ap, ◌∙◌}
use Rattle.xs_block.specs.steps.Blocks.{with_last}
use Rattle.xs_block.proofs.BlockLemmas.{room_vec, push_vec}
use Rattle.xs_block.proofs.blocks.Blocks.push.Goals as goal

pub push_reserved-requires : goal.push_reserved-requires
push_reserved-requires g c =
    room_vec c.self.inside.list c.in-Some.block.now (rw c.self.view_is c.requires.slots) (c.in-Some.ensures.variant.0 refl)
    c.in-Some.ensures.value

pub returns : goal.returns
returns g c = record {
  pushed = push_vec c.args.item c.self.inside.list c.in-Some.block.now c.push_reserved.new.self (c.in-Some.ensures.variant.0 refl)
      c.in-Some.ensures.value c.push_reserved.ensures.items c.push_reserved.ensures.capacity
      ∙ ap (λ bs. with_last c.args.item bs) c.self.view_is;
}
