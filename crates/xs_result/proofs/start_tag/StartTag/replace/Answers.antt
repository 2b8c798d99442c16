use Rattle.std.proofs.Common.{◌∙◌, [], ap, sym, arith, slice_set}
use Rattle.xs_result.specs.Places.{place_of, revalued, with_attribute}
use Rattle.xs_result.proofs.PlaceLemmas.{place_within, places_replaced, replaced}
use Rattle.xs_result.proofs.start_tag.StartTag.replace.Goals as goal

pub index-requires : goal.index-requires
index-requires c =
    let name = c.requires.first.0 in
    let within = place_within name [] c.self.inside.events.items c.args.place (ap (place_of name.uri name.local) c.self.view_is ∙ c.requires.first.1) in
    omega (arith, c.self.inside.events.ok.0, within)

pub index_mut-requires : goal.index_mut-requires
index_mut-requires c =
    let name = c.requires.first.0 in
    let within = place_within name [] c.self.inside.events.items c.args.place (ap (place_of name.uri name.local) c.self.view_is ∙ c.requires.first.1) in
    omega (arith, c.self.inside.events.ok.0, within)

pub invariant_of-self : goal.invariant_of-self
invariant_of-self c = λ uri local.
    let items = c.self.inside.events.items in
    let event_is = c.in_ok-event.ensures ∙ ap (revalued c.args.value.now) c.index.ensures in
    c.self.invariant uri local ∙ places_replaced uri local c.args.value.now c.index.result.now items c.args.place
    ∙ ap (λ e. place_of uri local (slice_set items c.args.place e)) (sym event_is)

pub returns : goal.returns
returns c = λ name h.
    let items = c.self.inside.events.items in
    let event_is = c.in_ok-event.ensures ∙ ap (revalued c.args.value.now) c.index.ensures in
    ap (slice_set items c.args.place) event_is
    ∙ replaced name c.args.value.now c.index.result.now items c.args.place (ap (place_of name.uri name.local) c.self.view_is ∙ h)
    ∙ ap (with_attribute name c.args.value.now) c.self.view_is
