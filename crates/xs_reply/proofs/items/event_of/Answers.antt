use Rattle.std.proofs.Common.{[], ◌∷◌, ◌∙◌, ap, sym}
use Rattle.xs_reply.specs.Items.{events_in}
use Rattle.xs_reply.proofs.ItemLemmas.{content_events, no_event}
use Rattle.xs_reply.proofs.items.event_of.Goals as goal

pub returns-in-Put : goal.returns-in-Put
returns-in-Put c =
    ap (λ i. events_in (i ∷ [])) (sym c.in-Put.is) ∙ content_events c.content.result c.args.segment.now c.content.ensures.items

pub returns-in-Run : goal.returns-in-Run
returns-in-Run c = no_event c.content.result c.args.segment.now c.content.ensures.items c.in-Run.is
