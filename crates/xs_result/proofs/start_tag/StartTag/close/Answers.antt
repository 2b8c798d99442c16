use Rattle.xs_result.proofs.PlaceLemmas.{no_places}
use Rattle.xs_result.proofs.start_tag.StartTag.close.Goals as goal

pub invariant_of-self-2 : goal.invariant_of-self-2
invariant_of-self-2 c =
    no_places c.clear.new.self.items c.forget.new.others.entries c.append.new.other.items c.clear.ensures.items c.forget.ensures
    c.in_ok-append.ensures.other_items
