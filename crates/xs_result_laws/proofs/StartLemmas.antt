-- The start tags of what stays of a result can be written.
use Rattle.std.proofs.Common.{◌≡◌, ℕ, zero, suc, ◌+◌, ◌<◌, ◌≤◌, ◌^◌, List, [], ◌∷◌, Bool, true, false, refl, sym, subst}
use Rattle.std.proofs.Common.{arith, length}
use Rattle.std.specs.List.{AllByRecursion}
use Rattle.std.proofs.lemmas.List.Sums.{take_while-cons}
use Rattle.xs_trace.specs.Label.{Label}
use Rattle.xs_trace.specs.declared.event.Event.{Event}
use Rattle.xs_trace.specs.declared.event.Event.TheVariants.{Start, Space, Attr, Chars, End, Comment, Pi}
use Rattle.xs_result_lines.specs.Bindings.{Attribute, attributes_in, is_in_tag, spaces_in}
use Rattle.xs_result_laws.proofs.TagLemmas.{IsGoodName, MayBind}
use Rattle.xs_result_laws.proofs.FitLemmas.{AreFresh, IsGoodAttribute, IsGoodElement}
use Rattle.xs_result_laws.proofs.ShapeLemmas.{AreSound, IsOrderly}

-- ---- the events of a start tag
no_spaces : spaces_in [] ≡ []
unfolding spaces_in
no_spaces = refl

pub no_attributes : attributes_in [] ≡ []
unfolding attributes_in
no_attributes = refl

pub spaces-end : (e : Event) (es : List Event) → is_in_tag e ≡ false → spaces_in (e ∷ es) ≡ []
unfolding spaces_in
spaces-end e es h = rw (take_while-cons is_in_tag e es, h) refl

pub attributes-end : (e : Event) (es : List Event) → is_in_tag e ≡ false → attributes_in (e ∷ es) ≡ []
unfolding attributes_in
attributes-end e es h = rw (take_while-cons is_in_tag e es, h) refl

spaces-space : (prefix uri : List ℕ) (es : List Event) → spaces_in (Space prefix uri ∷ es) ≡ (prefix, uri) ∷ spaces_in es
unfolding spaces_in
spaces-space prefix uri es = rw (take_while-cons is_in_tag (Space prefix uri) es) refl

spaces-attribute : (name : Label) (value : List ℕ) (es : List Event) → spaces_in (Attr name value ∷ es) ≡ spaces_in es
unfolding spaces_in
spaces-attribute name value es = rw (take_while-cons is_in_tag (Attr name value) es) refl

pub attributes-space : (prefix uri : List ℕ) (es : List Event) → attributes_in (Space prefix uri ∷ es) ≡ attributes_in es
unfolding attributes_in
attributes-space prefix uri es = rw (take_while-cons is_in_tag (Space prefix uri) es) refl

pub attributes-attribute : (name : Label) (value : List ℕ) (es : List Event)
    → attributes_in (Attr name value ∷ es) ≡ record { name = name; value = value } ∷ attributes_in es
unfolding attributes_in
attributes-attribute name value es = rw (take_while-cons is_in_tag (Attr name value) es) refl

record IsGoodRest (es : List Event) : Type 0 where
  spaces : AllByRecursion MayBind (spaces_in es)
  attributes : AllByRecursion IsGoodAttribute (attributes_in es)

rest_none : (es : List Event) → spaces_in es ≡ [] → attributes_in es ≡ [] → IsGoodRest es
rest_none es s a = record { spaces = subst (AllByRecursion MayBind) (sym s) tt; attributes = subst (AllByRecursion IsGoodAttribute) (sym a) tt }

rest_end : (e : Event) (es : List Event) → is_in_tag e ≡ false → IsGoodRest (e ∷ es)
rest_end e es h = rest_none (e ∷ es) (spaces-end e es h) (attributes-end e es h)

good_rest : (es : List Event) → AreSound es → IsGoodRest es
good_rest [] h = rest_none [] no_spaces no_attributes
good_rest (Space prefix uri ∷ es) h =
    let g = good_rest es h.1 in
    record {
      spaces = subst (AllByRecursion MayBind) (sym (spaces-space prefix uri es)) (h.0, g.spaces);
      attributes = subst (AllByRecursion IsGoodAttribute) (sym (attributes-space prefix uri es)) g.attributes;
    }
good_rest (Attr name value ∷ es) h =
    let g = good_rest es h.1 in
    record {
      spaces = subst (AllByRecursion MayBind) (sym (spaces-attribute name value es)) g.spaces;
      attributes = subst (AllByRecursion IsGoodAttribute) (sym (attributes-attribute name value es)) (h.0, g.attributes);
    }
good_rest (Start name ∷ es) h = rest_end (Start name) es refl
good_rest (Chars text ∷ es) h = rest_end (Chars text) es refl
good_rest (End ∷ es) h = rest_end End es refl
good_rest (Comment text ∷ es) h = rest_end (Comment text) es refl
good_rest (Pi target value ∷ es) h = rest_end (Pi target value) es refl

-- each open element has its end
deep : (es : List Event) (text tag : Bool) (n : ℕ) (names : List Label) → IsOrderly true text tag n names es → n ≤ length es
unfolding IsOrderly
deep [] text tag n names h = omega (arith, h)
deep (Start name ∷ es) text tag n names h = let rest : suc n ≤ length es = deep es false true (suc n) [] h in omega (arith, rest)
deep (Space prefix uri ∷ es) text tag n names h = let rest : n ≤ length es = deep es text true n names h.1 in omega (arith, rest)
deep (Attr name value ∷ es) text tag n names h = let rest : n ≤ length es = deep es text true n (name ∷ names) h.2 in omega (arith, rest)
deep (Chars more ∷ es) text tag n names h = let rest : n ≤ length es = deep es true false n [] h.2 in omega (arith, rest)
deep (End ∷ es) text tag zero names h = absurd h
deep (End ∷ es) text tag (suc n) names h = let rest : n ≤ length es = deep es false false n [] h in omega (arith, rest)
deep (Comment more ∷ es) text tag n names h = let rest : n ≤ length es = deep es false false n [] h in omega (arith, rest)
deep (Pi target value ∷ es) text tag n names h = let rest : n ≤ length es = deep es false false n [] h in omega (arith, rest)

-- so there are not more attributes and namespace nodes than other events
few_end : (e : Event) (es : List Event) (text tag : Bool) (n : ℕ) (names : List Label) → is_in_tag e ≡ false → IsOrderly true text tag n names (e ∷ es)
    → length (spaces_in (e ∷ es)) + length (attributes_in (e ∷ es)) + n ≤ length (e ∷ es)
few_end e es text tag n names end h =
    let whole : n ≤ length (e ∷ es) = deep (e ∷ es) text tag n names h in
    rw (spaces-end e es end, attributes-end e es end) (omega (arith, whole))

few_parts : (es : List Event) (text tag : Bool) (n : ℕ) (names : List Label) → IsOrderly true text tag n names es
    → length (spaces_in es) + length (attributes_in es) + n ≤ length es
unfolding IsOrderly
few_parts [] text tag n names h = rw (no_spaces, no_attributes) (omega (arith, h))
few_parts (Space prefix uri ∷ es) text tag n names h =
    let rest : length (spaces_in es) + length (attributes_in es) + n ≤ length es = few_parts es text true n names h.1 in
    rw (spaces-space prefix uri es, attributes-space prefix uri es) (omega (arith, rest))
few_parts (Attr name value ∷ es) text tag n names h =
    let rest : length (spaces_in es) + length (attributes_in es) + n ≤ length es = few_parts es text true n (name ∷ names) h.2 in
    rw (spaces-attribute name value es, attributes-attribute name value es) (omega (arith, rest))
few_parts (Start name ∷ es) text tag n names h = few_end (Start name) es text tag n names refl h
few_parts (Chars more ∷ es) text tag n names h = few_end (Chars more) es text tag n names refl h
few_parts (End ∷ es) text tag n names h = few_end End es text tag n names refl h
few_parts (Comment more ∷ es) text tag n names h = few_end (Comment more) es text tag n names refl h
few_parts (Pi target value ∷ es) text tag n names h = few_end (Pi target value) es text tag n names refl h

fresh_none : (names : List Label) (attrs : List Attribute) → attrs ≡ [] → AreFresh names attrs
fresh_none names attrs is = subst (AreFresh names) (sym is) tt

fresh_rest : (es : List Event) (text tag : Bool) (n : ℕ) (names : List Label) → IsOrderly true text tag n names es → AreFresh names (attributes_in es)
unfolding IsOrderly
fresh_rest [] text tag n names h = fresh_none names (attributes_in []) no_attributes
fresh_rest (Space prefix uri ∷ es) text tag n names h = subst (AreFresh names) (sym (attributes-space prefix uri es)) (fresh_rest es text true n names h.1)
fresh_rest (Attr name value ∷ es) text tag n names h =
    subst (AreFresh names) (sym (attributes-attribute name value es)) (h.1, fresh_rest es text true n (name ∷ names) h.2)
fresh_rest (Start name ∷ es) text tag n names h = fresh_none names (attributes_in (Start name ∷ es)) (attributes-end (Start name) es refl)
fresh_rest (Chars more ∷ es) text tag n names h = fresh_none names (attributes_in (Chars more ∷ es)) (attributes-end (Chars more) es refl)
fresh_rest (End ∷ es) text tag n names h = fresh_none names (attributes_in (End ∷ es)) (attributes-end End es refl)
fresh_rest (Comment more ∷ es) text tag n names h = fresh_none names (attributes_in (Comment more ∷ es)) (attributes-end (Comment more) es refl)
fresh_rest (Pi target value ∷ es) text tag n names h = fresh_none names (attributes_in (Pi target value ∷ es)) (attributes-end (Pi target value) es refl)

pub element_good : (name : Label) (es : List Event) (n : ℕ) → IsGoodName name → AreSound es → IsOrderly true false true (suc n) [] es
    → length (Start name ∷ es) < 2 ^ 64 + n → IsGoodElement name es
element_good name es n own sound orderly small =
    let g = good_rest es sound in
    let few : length (spaces_in es) + length (attributes_in es) + suc n ≤ length es = few_parts es false true (suc n) [] orderly in
    record {
      own = own;
      spaces = g.spaces;
      attributes = g.attributes;
      fresh = fresh_rest es false true (suc n) [] orderly;
      few = omega (arith, few, small);
    }
