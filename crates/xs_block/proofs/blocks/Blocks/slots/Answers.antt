use Rattle.std.proofs.Common.{sym, ap, ◌∙◌, refl}
use Rattle.xs_block.specs.Chain.{slots_of}
use Rattle.xs_block.proofs.BlockLemmas.{slots_vec}
use Rattle.xs_block.proofs.blocks.Blocks.slots.Goals as goal

pub returns-in-Some : goal.returns-in-Some
returns-in-Some g c = record {
  slots = c.free_slots.ensures.slots
      ∙ sym (slots_vec c.self.inside.list c.in-Some.block.now (c.in-Some.ensures.variant.0 refl) c.in-Some.ensures.lookup)
      ∙ ap (λ bs. slots_of bs) c.self.view_is;
}
