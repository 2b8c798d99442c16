use Rattle.std.proofs.Common.{◌∙◌, ap, sym}
use Rattle.xs_result.specs.Places.{place_in, place_of}
use Rattle.xs_result.proofs.PlaceLemmas.{among_few, beyond_few}
use Rattle.xs_result.proofs.start_tag.StartTag.place.Goals as goal

pub returns-in-Some : goal.returns-in-Some
returns-in-Some c =
    let name = c.args.name.now in
    sym (among_few c.self.inside.few.items c.self.inside.others.entries name.uri name.local c.in-Some.place
    (ap (λ names. place_in names name.uri name.local) (sym c.as_slice.ensures.value) ∙ sym c.place_among.ensures ∙ c.in-Some.is))
    ∙ c.self.invariant name.uri name.local ∙ ap (place_of name.uri name.local) c.self.view_is

pub returns-in-None : goal.returns-in-None
returns-in-None c =
    let name = c.args.name.now in
    c.place_beyond.ensures
    ∙ sym (beyond_few c.self.inside.few.items c.self.inside.others.entries name.uri name.local
    (ap (λ names. place_in names name.uri name.local) (sym c.as_slice.ensures.value) ∙ sym c.place_among.ensures ∙ c.in-None.is))
    ∙ c.self.invariant name.uri name.local ∙ ap (place_of name.uri name.local) c.self.view_is
