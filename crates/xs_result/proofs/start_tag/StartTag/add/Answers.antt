use Rattle.std.proofs.Common.{◌∙◌, ap, sym, arith, ◌++◌, ◌∷◌, []}
use Rattle.xs_trace.specs.declared.event.Event.TheVariants.{Attr}
use Rattle.xs_result.specs.Places.{place_in, place_of, with_attribute}
use Rattle.xs_result.proofs.PlaceLemmas.{added, entered}
use Rattle.xs_result.proofs.start_tag.StartTag.add.Goals as goal

pub keep-requires : goal.keep-requires
keep-requires c =
    let name = c.args.name.now in
    let names = c.self.inside.few.items ++ c.self.inside.others.entries in
    record {
      new =
          ap (λ u. place_in names u c.local.result.now) c.uri.ensures.text ∙ ap (place_in names name.uri) c.local.ensures.text
          ∙ c.self.invariant name.uri name.local ∙ ap (place_of name.uri name.local) c.self.view_is ∙ c.requires.new;
    }

pub invariant_of-self-in-Ok : goal.invariant_of-self-in-Ok
invariant_of-self-in-Ok c = λ uri local.
    let items = c.self.inside.events.items in
    let name = c.args.name.now in
    let value = c.args.value.now in
    let none = ap (place_of name.uri name.local) c.self.view_is ∙ c.requires.new in
    entered name value (c.local.result, c.uri.result) uri local items c.len-place.result
    (place_in (c.self.inside.few.items ++ c.self.inside.others.entries) uri local) _ c.local.ensures.text c.uri.ensures.text none
    (omega (arith, c.self.inside.events.ok.0, c.len-place.ensures)) (c.self.invariant uri local) (c.in-Ok.ensures.kept uri local)
    ∙ ap (λ n. place_of uri local (items ++ Attr n value ∷ [])) (sym c.in_ok-copy.ensures.label)
    ∙ ap (λ v. place_of uri local (items ++ Attr c.in_ok-copy.field-0 v ∷ [])) (sym c.in_ok-copy-2.ensures.text)
    ∙ ap (place_of uri local) (sym c.in_ok-push.ensures.items)

pub returns-in-Ok : goal.returns-in-Ok
returns-in-Ok c =
    let items = c.self.inside.events.items in
    let name = c.args.name.now in
    let value = c.args.value.now in
    let none = ap (place_of name.uri name.local) c.self.view_is ∙ c.requires.new in
    c.in_ok-push.ensures.items ∙ ap (λ v. items ++ Attr c.in_ok-copy.field-0 v ∷ []) c.in_ok-copy-2.ensures.text
    ∙ ap (λ n. items ++ Attr n value ∷ []) c.in_ok-copy.ensures.label ∙ added name value items none ∙ ap (with_attribute name value) c.self.view_is
