use Rattle.xs_result.proofs.PlaceLemmas.{no_places}
use Rattle.xs_result.proofs.start_tag.StartTag.new.Goals as goal

pub invariant_of-result : goal.invariant_of-result
invariant_of-result c =
    no_places c.new-2.result.items c.new-3.result.entries c.new.result.items c.new-2.ensures.items c.new-3.ensures.empty c.new.ensures.items
