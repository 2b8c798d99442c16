-- The text of what stays is the text of all that came.
use Rattle.std.proofs.Common.{◌≡◌, ◌∙◌, ap, refl, sym, Bool, true, false, List, [], ◌∷◌, ◌++◌}
use Rattle.std.proofs.lemmas.List.{append_assoc, append-nil}
use Rattle.std.specs.List.{list_any}
use Rattle.std.specs.Prelude.{if◌then◌else◌}
use Rattle.xs_trace.specs.declared.event.Event.{Event}
use Rattle.xs_trace.specs.declared.event.Event.TheVariants.{Start, Space, Attr, Chars, End, Comment, Pi}
use Rattle.xs_trace.specs.Label.{Label}
use Rattle.xs_result.specs.Built.{built, depth, in_front, is_inside, is_same_name, is_start_open, joined, kept_from, last_value, single_attributes}
use Rattle.xs_result.specs.Text.{own_text, text_in}

-- an event without text, kept or not
either-way : (b : Bool) (e : Event) (k es : List Event) → own_text e ≡ [] → text_in k ≡ text_in es → text_in (if b then e ∷ k else k) ≡ text_in es
unfolding text_in
either-way true e k es h t = ap (λ xs. xs ++ text_in k) h ∙ t
either-way false e k es h t = t

text-kept : (before es : List Event) → text_in (kept_from before es) ≡ text_in es
unfolding text_in kept_from
text-kept before [] = refl
text-kept before (Start name ∷ es) = text-kept (Start name ∷ before) es
text-kept before (Space prefix uri ∷ es) =
    either-way (is_start_open before) (Space prefix uri) (kept_from (Space prefix uri ∷ before) es) es refl (text-kept (Space prefix uri ∷ before) es)
text-kept before (Attr name value ∷ es) =
    either-way (is_start_open before) (Attr name value) (kept_from (Attr name value ∷ before) es) es refl (text-kept (Attr name value ∷ before) es)
text-kept before (Chars [] ∷ es) = text-kept (Chars [] ∷ before) es
text-kept before (Chars (b ∷ bs) ∷ es) = ap (λ t. (b ∷ bs) ++ t) (text-kept (Chars (b ∷ bs) ∷ before) es)
text-kept before (End ∷ es) = either-way (is_inside (depth before)) End (kept_from (End ∷ before) es) es refl (text-kept (End ∷ before) es)
text-kept before (Comment text ∷ es) = text-kept (Comment text ∷ before) es
text-kept before (Pi target value ∷ es) = text-kept (Pi target value ∷ before) es

single-if : (b : Bool) (a : Event) (k j es : List Event) → own_text a ≡ [] → text_in k ≡ text_in es → text_in j ≡ text_in es
    → text_in (if b then k else a ∷ j) ≡ text_in es
unfolding text_in
single-if true a k j es h s t = s
single-if false a k j es h s t = ap (λ xs. xs ++ text_in j) h ∙ t

text-single : (names : List Label) (es : List Event) → text_in (single_attributes names es) ≡ text_in es
unfolding text_in single_attributes
text-single names [] = refl
text-single names (Attr name value ∷ es) =
    single-if (list_any (is_same_name name) names) (Attr name (last_value name value es)) (single_attributes names es)
    (single_attributes (name ∷ names) es) es refl (text-single names es) (text-single (name ∷ names) es)
text-single names (Space prefix uri ∷ es) = text-single names es
text-single names (Start name ∷ es) = text-single [] es
text-single names (Chars text ∷ es) = ap (λ t. text ++ t) (text-single [] es)
text-single names (End ∷ es) = text-single [] es
text-single names (Comment text ∷ es) = text-single [] es
text-single names (Pi target value ∷ es) = text-single [] es

text-front : (e : Event) (es : List Event) → text_in (in_front e es) ≡ own_text e ++ text_in es
unfolding text_in in_front
text-front (Chars text) [] = refl
text-front (Chars text) (Chars more ∷ es) = append_assoc text more (text_in es)
text-front (Chars text) (Start name ∷ es) = refl
text-front (Chars text) (Space prefix uri ∷ es) = refl
text-front (Chars text) (Attr name value ∷ es) = refl
text-front (Chars text) (End ∷ es) = refl
text-front (Chars text) (Comment more ∷ es) = refl
text-front (Chars text) (Pi target value ∷ es) = refl
text-front (Start name) es = refl
text-front (Space prefix uri) es = refl
text-front (Attr name value) es = refl
text-front End es = refl
text-front (Comment text) es = refl
text-front (Pi target value) es = refl

text-joined : (es : List Event) → text_in (joined es) ≡ text_in es
unfolding text_in joined
text-joined [] = refl
text-joined (e ∷ es) = text-front e (joined es) ∙ ap (λ t. own_text e ++ t) (text-joined es)

pub text_built : (es : List Event) → text_in es ≡ text_in (built es)
unfolding built
text_built es = sym (text-joined (single_attributes [] (kept_from [] es)) ∙ text-single [] (kept_from [] es) ∙ text-kept [] es)

-- one event more
pub text_behind : (es : List Event) (e : Event) → text_in (es ++ e ∷ []) ≡ text_in es ++ own_text e
unfolding text_in
text_behind [] e = append-nil (own_text e)
text_behind (x ∷ es) e = ap (λ t. own_text x ++ t) (text_behind es e) ∙ sym (append_assoc (own_text x) (text_in es) (own_text e))
