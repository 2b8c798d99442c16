use Rattle.std.proofs.Common.{ap, sym, ◌∙◌, ◌∷◌, ◌++◌, [], map, Ok}
use Rattle.std.proofs.lemmas.List.{map-append}
use Rattle.xs_pool.proofs.ListLemmas.{item-moved}
use Rattle.xs_pool.proofs.workers.all_ok.Goals as goal

pub loop-one-preserved : goal.loop-one-preserved
loop-one-preserved g c =
    item-moved _ (map Ok c.push.new.self.items) c.pop.new.self.items c.loop-one.results.items c.in-Some.one _ c.loop-one.invariant c.in-Some.ensures.items
    (ap (map Ok) c.in_ok-push.ensures.items ∙ map-append Ok c.loop-one.all.items (c.in_ok-one.field-0 ∷ [])
    ∙ ap (λ x. map Ok c.loop-one.all.items ++ x ∷ []) (sym c.in_ok-one.was))
