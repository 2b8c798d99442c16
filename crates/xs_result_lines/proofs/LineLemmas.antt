-- The lines of a list go part by part.
use Rattle.std.proofs.Common.{◌≡◌, List, [], ◌∷◌, ◌++◌, false, refl, sym, ◌∙◌, ap, append_assoc}
use Rattle.std.specs.Prelude.{take_while}
use Rattle.std.specs.List.{filter_map}
use Rattle.std.proofs.lemmas.List.Sums.{take_while-cons}
use Rattle.xs_pyx.specs.declared.line.Line.TheVariants as line
use Rattle.xs_trace.specs.Label.{Label}
use Rattle.xs_trace.specs.declared.event.Event.{Event}
use Rattle.xs_trace.specs.declared.event.Event.TheVariants.{Start, Space, Attr, Chars, End, Comment, Pi}
use Rattle.xs_result_lines.specs.Bindings.{attribute_of, attributes_in, bindings, bindings_before, is_in_tag, space_of, spaces_in, with_attributes, with_spaces, own_binding}
use Rattle.xs_result_lines.specs.Laws.{ElementsGoOn, LinesGoOn, begins_in_tag}
use Rattle.xs_result_lines.specs.Lines.{OpenElement, entered, lines, open_after, tag_lines}

-- what follows does not belong to the start tag
tag_ends : (es more : List Event) → begins_in_tag more ≡ false → take_while is_in_tag (es ++ more) ≡ take_while is_in_tag es
tag_ends [] [] h = refl
tag_ends [] (e ∷ more) h = rw (take_while-cons is_in_tag e more, h) refl
tag_ends (e ∷ es) more h =
    rw (take_while-cons is_in_tag e (es ++ more), take_while-cons is_in_tag e es, tag_ends es more h) refl

spaces-before : (es more : List Event) → begins_in_tag more ≡ false → spaces_in (es ++ more) ≡ spaces_in es
unfolding spaces_in
spaces-before es more h = ap (filter_map space_of) (tag_ends es more h)

attributes-before : (es more : List Event) → begins_in_tag more ≡ false → attributes_in (es ++ more) ≡ attributes_in es
unfolding attributes_in
attributes-before es more h = ap (filter_map attribute_of) (tag_ends es more h)

bound-before : (name : Label) (es more : List Event) → begins_in_tag more ≡ false → bindings_before name (es ++ more) ≡ bindings_before name es
unfolding bindings_before
bound-before name es more h = ap (with_spaces (own_binding name)) (spaces-before es more h)

bindings-before : (name : Label) (es more : List Event) → begins_in_tag more ≡ false → bindings name (es ++ more) ≡ bindings name es
unfolding bindings
bindings-before name es more h =
    ap (λ m. with_attributes m (attributes_in (es ++ more))) (bound-before name es more h)
    ∙ ap (with_attributes (bindings_before name es)) (attributes-before es more h)

tag-before : (around : List OpenElement) (name : Label) (es more : List Event) → begins_in_tag more ≡ false
    → tag_lines around name (es ++ more) ≡ tag_lines around name es
tag-before around name es more h = rw (bindings-before name es more h, bound-before name es more h, attributes-before es more h) refl

entered-before : (around : List OpenElement) (name : Label) (es more : List Event) → begins_in_tag more ≡ false
    → entered around name (es ++ more) ≡ entered around name es
entered-before around name es more h = rw (bindings-before name es more h) refl

pub lines_go_on : LinesGoOn
unfolding lines open_after
lines_go_on around [] more h = refl
lines_go_on around (Start name ∷ es) more h =
    ap (λ ls. ls ++ lines (entered around name (es ++ more)) (es ++ more)) (tag-before around name es more h)
    ∙ ap (λ os. tag_lines around name es ++ lines os (es ++ more)) (entered-before around name es more h)
    ∙ ap (λ ls. tag_lines around name es ++ ls) (lines_go_on (entered around name es) es more h)
    ∙ sym (append_assoc (tag_lines around name es) (lines (entered around name es) es) (lines (open_after (entered around name es) es) more))
lines_go_on around (Space prefix uri ∷ es) more h = lines_go_on around es more h
lines_go_on around (Attr name value ∷ es) more h = lines_go_on around es more h
lines_go_on around (Chars text ∷ es) more h = ap (λ ls. line.Chars text ∷ ls) (lines_go_on around es more h)
lines_go_on [] (End ∷ es) more h = lines_go_on [] es more h
lines_go_on (o ∷ os) (End ∷ es) more h = ap (λ ls. line.End o.name ∷ ls) (lines_go_on os es more h)
lines_go_on around (Comment text ∷ es) more h = ap (λ ls. line.Comment text ∷ ls) (lines_go_on around es more h)
lines_go_on around (Pi target value ∷ es) more h = ap (λ ls. line.Pi target value ∷ ls) (lines_go_on around es more h)

pub elements_go_on : ElementsGoOn
unfolding open_after
elements_go_on around [] more h = refl
elements_go_on around (Start name ∷ es) more h =
    ap (λ os. open_after os (es ++ more)) (entered-before around name es more h) ∙ elements_go_on (entered around name es) es more h
elements_go_on around (Space prefix uri ∷ es) more h = elements_go_on around es more h
elements_go_on around (Attr name value ∷ es) more h = elements_go_on around es more h
elements_go_on around (Chars text ∷ es) more h = elements_go_on around es more h
elements_go_on [] (End ∷ es) more h = elements_go_on [] es more h
elements_go_on (o ∷ os) (End ∷ es) more h = elements_go_on os es more h
elements_go_on around (Comment text ∷ es) more h = elements_go_on around es more h
elements_go_on around (Pi target value ∷ es) more h = elements_go_on around es more h
