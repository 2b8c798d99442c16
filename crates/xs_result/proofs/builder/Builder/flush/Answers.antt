use Rattle.std.proofs.Common.{◌∙◌, ap, sym, ◌++◌, ◌∷◌, []}
use Rattle.std.proofs.lemmas.List.{append_assoc}
use Rattle.xs_trace.specs.declared.event.Event.TheVariants.{Chars}
use Rattle.xs_result.specs.Building.{flushed, option_events}
use Rattle.xs_result.proofs.builder.Builder.flush.Goals as goal

pub returns-in_ok-push-clause-events : goal.returns-in_ok-push-clause-events
unfolding flushed
returns-in_ok-push-clause-events c =
    let closed = c.args.self.now.events.items in
    let tag = c.args.self.now.tag in
    let one = Chars c.in-Some.text ∷ [] in
    c.in_ok-push.ensures.items ∙ ap (λ xs. xs ++ one) c.in_ok-close.ensures.moved ∙ append_assoc closed tag one
    ∙ ap (λ xs. closed ++ (tag ++ xs)) (ap option_events (sym c.in-Some.is) ∙ c.in_ok-text.ensures.text)
