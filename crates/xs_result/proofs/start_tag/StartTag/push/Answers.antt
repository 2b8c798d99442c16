use Rattle.std.proofs.Common.{◌∙◌, ap, sym}
use Rattle.xs_result.specs.Places.{place_of}
use Rattle.xs_result.proofs.PlaceLemmas.{place_of_pushed}
use Rattle.xs_result.proofs.start_tag.StartTag.push.Goals as goal

pub invariant_of-self-2 : goal.invariant_of-self-2
invariant_of-self-2 c = λ uri local.
    c.self.invariant uri local ∙ place_of_pushed uri local c.self.inside.events.items c.args.event c.requires
    ∙ ap (place_of uri local) (sym c.in_ok-push.ensures.items)
