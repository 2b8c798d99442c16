-- The events of a start tag, one after another.
use Rattle.std.proofs.Common.{◌≡◌, List, [], ◌∷◌, true, false, refl, sym, ◌∙◌, ap}
use Rattle.std.specs.List.{cons_option}
use Rattle.std.proofs.lemmas.List.Sums.{take_while-cons}
use Rattle.xs_trace.specs.declared.event.Event.{Event}
use Rattle.xs_result_lines.specs.Bindings.{Attribute, Binding, attribute_of, attributes_in, is_in_tag, space_of, spaces_in, with_spaces}

pub spaces-first : (e : Event) (es : List Event) → is_in_tag e ≡ true → spaces_in (e ∷ es) ≡ cons_option (space_of e) (spaces_in es)
unfolding spaces_in
spaces-first e es h = rw (take_while-cons is_in_tag e es, h) refl

pub spaces-past : (e : Event) (es : List Event) → is_in_tag e ≡ false → spaces_in (e ∷ es) ≡ []
unfolding spaces_in
spaces-past e es h = rw (take_while-cons is_in_tag e es, h) refl

pub attributes-first : (e : Event) (es : List Event) → is_in_tag e ≡ true → attributes_in (e ∷ es) ≡ cons_option (attribute_of e) (attributes_in es)
unfolding attributes_in
attributes-first e es h = rw (take_while-cons is_in_tag e es, h) refl

pub attributes-past : (e : Event) (es : List Event) → is_in_tag e ≡ false → attributes_in (e ∷ es) ≡ []
unfolding attributes_in
attributes-past e es h = rw (take_while-cons is_in_tag e es, h) refl

pub spaces_step : (old new whole : List Binding) (e : Event) (rest more : List Event) → rest ≡ e ∷ more → is_in_tag e ≡ true
    → ((bs : List Binding) → with_spaces new bs ≡ with_spaces old (cons_option (space_of e) bs)) → with_spaces old (spaces_in rest) ≡ whole
    → with_spaces new (spaces_in more) ≡ whole
spaces_step old new whole e rest more is inside step so_far =
    step (spaces_in more) ∙ ap (with_spaces old) (sym (spaces-first e more inside) ∙ ap spaces_in (sym is)) ∙ so_far

pub attributes_step : {X : Type 0} (old new : List Attribute → X) (whole : X) (e : Event) (rest more : List Event) → rest ≡ e ∷ more → is_in_tag e ≡ true
    → ((attributes : List Attribute) → new attributes ≡ old (cons_option (attribute_of e) attributes)) → old (attributes_in rest) ≡ whole
    → new (attributes_in more) ≡ whole
attributes_step old new whole e rest more is inside step so_far =
    step (attributes_in more) ∙ ap old (sym (attributes-first e more inside) ∙ ap attributes_in (sym is)) ∙ so_far
