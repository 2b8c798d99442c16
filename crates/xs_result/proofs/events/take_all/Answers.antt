use Rattle.std.proofs.Common.{◌∙◌, ap, map, sym, ◌∷◌, []}
use Rattle.std.proofs.lemmas.List.{map-append}
use Rattle.xs_result.specs.Building.{nothing, taken, taken_all}
use Rattle.xs_result.proofs.BuiltLemmas.{taken_behind}
use Rattle.xs_result.proofs.events.take_all.Goals as goal

pub loop-event-preserved : goal.loop-event-preserved
loop-event-preserved g c =
    let es = map (λ e. e.now) c.loop-event.yielded in
    let e = c.in-Some.event.now in
    c.in_ok-take.ensures ∙ ap (λ s. taken s e) c.loop-event.invariant ∙ sym (taken_behind nothing es e)
    ∙ ap (taken_all nothing) (sym (map-append (λ e. e.now) c.loop-event.yielded (c.in-Some.event ∷ [])))

pub loop-event-init : goal.loop-event-init
unfolding taken_all
loop-event-init g c = c.new-builder.ensures
