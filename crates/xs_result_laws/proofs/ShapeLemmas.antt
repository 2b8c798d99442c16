-- What stays of a result: its elements are balanced, attributes and namespace nodes stand in start tags, no attribute comes twice, and
-- no text is empty or follows another.
use Rattle.std.proofs.Common.{◌≡◌, ℕ, zero, suc, ◌-◌, ◌≤◌, List, [], ◌∷◌, ◌++◌, Bool, true, false, if◌then◌else◌, refl, ap}
use Rattle.std.proofs.Common.{All, arith, length}
use Rattle.std.specs.Prelude.{not, ◌&&◌, codes}
use Rattle.std.specs.List.{AllByRecursion, list_any}
use Rattle.std.specs.Str.{bytes_eq, IsUtf8}
use Rattle.std.proofs.lemmas.List.Elements.{All-head, All-tail}
use Rattle.std.proofs.lemmas.Str.{IsUtf8-append}
use Rattle.xs_trace.specs.Label.{Label}
use Rattle.xs_trace.specs.declared.event.Event.{Event}
use Rattle.xs_trace.specs.declared.event.Event.TheVariants.{Start, Space, Attr, Chars, End, Comment, Pi}
use Rattle.xs_build.specs.DocumentTree.{is_target}
use Rattle.xs_making.specs.Laws.{IsWellPut}
use Rattle.xs_making.specs.Texts as texts
use Rattle.xs_result.specs.Built.{built, depth, in_front, is_empty, is_same_name, is_start_open, joined, kept_from, last_value, single_attributes, stays}
use Rattle.xs_result_laws.specs.Events.{HasTexts, is_balanced}
use Rattle.xs_result_laws.proofs.NameLemmas.{IsBindable, name_bindable, space_bindable}
use Rattle.xs_result_laws.proofs.TagLemmas.{IsGoodName}
use Rattle.xs_result_laws.proofs.FitLemmas.{IsGoodAttribute}

-- ---- the order of events
-- Whether a text stands just before, an attribute may follow, how many elements are open, and which attributes the start tag has. With
-- the first argument no text follows another.
unfoldable pub IsOrderly : Bool → Bool → Bool → ℕ → List Label → List Event → Type 0
IsOrderly apart text tag n names [] = n ≡ 0
IsOrderly apart text tag n names (Start name ∷ es) = IsOrderly apart false true (suc n) [] es
IsOrderly apart text tag n names (Space prefix uri ∷ es) = (tag ≡ true) × IsOrderly apart text true n names es
IsOrderly apart text tag n names (Attr name value ∷ es) =
    (tag ≡ true) × (list_any (is_same_name name) names ≡ false) × IsOrderly apart text true n (name ∷ names) es
IsOrderly apart text tag n names (Chars more ∷ es) = (text ≡ false) × (is_empty more ≡ false) × IsOrderly apart apart false n [] es
IsOrderly apart text tag zero names (End ∷ es) = ⊥
IsOrderly apart text tag (suc n) names (End ∷ es) = IsOrderly apart false false n [] es
IsOrderly apart text tag n names (Comment more ∷ es) = IsOrderly apart false false n [] es
IsOrderly apart text tag n names (Pi target value ∷ es) = IsOrderly apart false false n [] es

abbrev AreKept : Bool → ℕ → List Label → List Event → Type 0
AreKept tag n names es = IsOrderly false false tag n names es

kept_orderly : (es before : List Event) (n : ℕ) (names : List Label) → depth before ≡ n → is_balanced n es ≡ true
    → AreKept (is_start_open before) n names (single_attributes names (kept_from before es))
unfolding IsOrderly kept_from single_attributes is_balanced
kept_orderly [] before zero names d h = refl
kept_orderly [] before (suc n) names d h = absurd (cc)
kept_orderly (Start name ∷ es) before n names d h = kept_orderly es (Start name ∷ before) (suc n) [] (ap suc d) h
kept_orderly (Space prefix uri ∷ es) before n names d h = by_tag (is_start_open before) (kept_orderly es (Space prefix uri ∷ before) n names d h)
  where
    by_tag : (t : Bool) → AreKept t n names (single_attributes names (kept_from (Space prefix uri ∷ before) es))
        → AreKept t n names
        (single_attributes names (if t then Space prefix uri ∷ kept_from (Space prefix uri ∷ before) es else kept_from (Space prefix uri ∷ before) es))
    by_tag true rest = (refl, rest)
    by_tag false rest = rest
kept_orderly (Attr name value ∷ es) before n names d h =
    by_tag (is_start_open before) (kept_orderly es (Attr name value ∷ before) n names d h) (kept_orderly es (Attr name value ∷ before) n (name ∷ names) d h)
  where
    by_name : (t : Bool) → list_any (is_same_name name) names ≡ t → AreKept true n names (single_attributes names (kept_from (Attr name value ∷ before) es))
        → AreKept true n (name ∷ names) (single_attributes (name ∷ names) (kept_from (Attr name value ∷ before) es))
        → AreKept true n names (if t then single_attributes names (kept_from (Attr name value ∷ before) es)
        else Attr name (last_value name value (kept_from (Attr name value ∷ before) es))
        ∷ single_attributes (name ∷ names) (kept_from (Attr name value ∷ before) es))
    by_name true known same more = same
    by_name false new same more = (refl, new, more)

    by_tag : (t : Bool) → AreKept t n names (single_attributes names (kept_from (Attr name value ∷ before) es))
        → AreKept t n (name ∷ names) (single_attributes (name ∷ names) (kept_from (Attr name value ∷ before) es))
        → AreKept t n names
        (single_attributes names (if t then Attr name value ∷ kept_from (Attr name value ∷ before) es else kept_from (Attr name value ∷ before) es))
    by_tag true same more = by_name (list_any (is_same_name name) names) refl same more
    by_tag false same more = same
kept_orderly (Chars text ∷ es) before n names d h =
    by_text (is_empty text) refl (kept_orderly es (Chars text ∷ before) n names d h) (kept_orderly es (Chars text ∷ before) n [] d h)
  where
    by_text : (t : Bool) → is_empty text ≡ t → AreKept (t && is_start_open before) n names (single_attributes names (kept_from (Chars text ∷ before) es))
        → AreKept (t && is_start_open before) n [] (single_attributes [] (kept_from (Chars text ∷ before) es))
        → AreKept (is_start_open before) n names
        (single_attributes names (if not t then Chars text ∷ kept_from (Chars text ∷ before) es else kept_from (Chars text ∷ before) es))
    by_text true none same more = same
    by_text false some same more = (refl, some, more)
kept_orderly (End ∷ es) before zero names d h = absurd (cc)
kept_orderly (End ∷ es) before (suc n) names d h =
    let less : depth before - 1 ≡ n = omega (arith, d) in
    rw d (kept_orderly es (End ∷ before) n [] less h)
kept_orderly (Comment text ∷ es) before n names d h = kept_orderly es (Comment text ∷ before) n [] d h
kept_orderly (Pi target value ∷ es) before n names d h = kept_orderly es (Pi target value ∷ before) n [] d h

-- ---- texts side by side
joined_some : (text more : List ℕ) → is_empty text ≡ false → is_empty (text ++ more) ≡ false
joined_some [] more h = absurd (cc)
joined_some (b ∷ text) more h = refl

front_orderly : (text : List ℕ) (tag : Bool) (n : ℕ) (names : List Label) (es : List Event) → is_empty text ≡ false → IsOrderly true false false n [] es
    → IsOrderly true false tag n names (in_front (Chars text) es)
unfolding IsOrderly in_front
front_orderly text tag n names [] some h = (refl, some, h)
front_orderly text tag n names (Chars more ∷ es) some h = (refl, joined_some text more some, h.2)
front_orderly text tag n names (Start name ∷ es) some h = (refl, some, h)
front_orderly text tag n names (Space prefix uri ∷ es) some h = absurd (let no : false ≡ true = h.0 in cc)
front_orderly text tag n names (Attr name value ∷ es) some h = absurd (let no : false ≡ true = h.0 in cc)
front_orderly text tag zero names (End ∷ es) some h = absurd h
front_orderly text tag (suc n) names (End ∷ es) some h = (refl, some, h)
front_orderly text tag n names (Comment more ∷ es) some h = (refl, some, h)
front_orderly text tag n names (Pi target value ∷ es) some h = (refl, some, h)

joined_orderly : (es : List Event) (tag : Bool) (n : ℕ) (names : List Label) → AreKept tag n names es → IsOrderly true false tag n names (joined es)
unfolding IsOrderly joined in_front
joined_orderly [] tag n names h = h
joined_orderly (Start name ∷ es) tag n names h = joined_orderly es true (suc n) [] h
joined_orderly (Space prefix uri ∷ es) tag n names h = (h.0, joined_orderly es true n names h.1)
joined_orderly (Attr name value ∷ es) tag n names h = (h.0, h.1, joined_orderly es true n (name ∷ names) h.2)
joined_orderly (Chars text ∷ es) tag n names h = front_orderly text tag n names (joined es) h.1 (joined_orderly es false n [] h.2)
joined_orderly (End ∷ es) tag zero names h = absurd h
joined_orderly (End ∷ es) tag (suc n) names h = joined_orderly es false n [] h
joined_orderly (Comment text ∷ es) tag n names h = joined_orderly es false n [] h
joined_orderly (Pi target value ∷ es) tag n names h = joined_orderly es false n [] h

pub built_orderly : (es : List Event) → is_balanced 0 es ≡ true → IsOrderly true false false 0 [] (built es)
unfolding built
built_orderly es h = joined_orderly (single_attributes [] (kept_from [] es)) false 0 [] (kept_orderly es [] 0 [] refl h)

-- ---- events that can be written
abbrev pub IsSound : Event → Type 0
IsSound (Start name) = IsGoodName name
IsSound (Space prefix uri) = IsBindable prefix uri
IsSound (Attr name value) = IsGoodAttribute (record { name = name; value = value })
IsSound (Chars text) = IsUtf8 text
IsSound End = Unit {0}
IsSound (Comment text) = IsUtf8 text
IsSound (Pi target value) = (is_target target ≡ true) × IsUtf8 target × IsUtf8 value

abbrev pub AreSound : List Event → Type 0
AreSound es = AllByRecursion IsSound es

plain_same : (u : List ℕ) (t : Bool) → (texts.is_empty u && t) ≡ false → (is_empty u && t) ≡ false
plain_same [] t h = h
plain_same (b ∷ u) t h = refl

put_sound : (e : Event) → IsWellPut e → HasTexts e → IsSound e
put_sound (Start name) h t = record { bindable = name_bindable name h t; local = h.local; local_text = t.1 }
put_sound (Space prefix uri) h t = space_bindable prefix uri h t.0 t.1
put_sound (Attr name value) h t = record {
  named = record { bindable = name_bindable name h.0 t.0; local = h.0.local; local_text = t.0.1 };
  plain = plain_same name.uri (bytes_eq name.local (codes "xmlns")) h.1;
  text = t.1;
}
put_sound (Chars text) h t = t
put_sound End h t = tt
put_sound (Comment text) h t = t
put_sound (Pi target value) h t = (h, t.0, t.1)

pub all_sound : (es : List Event) → All IsWellPut es → All HasTexts es → AreSound es
all_sound [] h t = tt
all_sound (e ∷ es) h t = (
  put_sound e (All-head IsWellPut e es h) (All-head HasTexts e es t),
  all_sound es (All-tail IsWellPut e es h) (All-tail HasTexts e es t),
)

kept_sound : (es before : List Event) → AreSound es → AreSound (kept_from before es)
unfolding kept_from
kept_sound [] before h = tt
kept_sound (e ∷ es) before h = by_test (stays before e) (kept_sound es (e ∷ before) h.1)
  where
    by_test : (t : Bool) → AreSound (kept_from (e ∷ before) es) → AreSound (if t then e ∷ kept_from (e ∷ before) es else kept_from (e ∷ before) es)
    by_test true rest = (h.0, rest)
    by_test false rest = rest

value_text : (es : List Event) (name : Label) (value : List ℕ) → AreSound es → IsUtf8 value → IsUtf8 (last_value name value es)
unfolding last_value
value_text [] name value h t = t
value_text (Attr other more ∷ es) name value h t =
    by_name (is_same_name other name) (value_text es name more h.1 h.0.text) (value_text es name value h.1 t)
  where
    by_name : (s : Bool) → IsUtf8 (last_value name more es) → IsUtf8 (last_value name value es)
        → IsUtf8 (if s then last_value name more es else last_value name value es)
    by_name true a b = a
    by_name false a b = b
value_text (Space prefix uri ∷ es) name value h t = value_text es name value h.1 t
value_text (Start other ∷ es) name value h t = t
value_text (Chars text ∷ es) name value h t = t
value_text (End ∷ es) name value h t = t
value_text (Comment text ∷ es) name value h t = t
value_text (Pi target text ∷ es) name value h t = t

single_sound : (es : List Event) (names : List Label) → AreSound es → AreSound (single_attributes names es)
unfolding single_attributes
single_sound [] names h = tt
single_sound (Attr name value ∷ es) names h = by_name (list_any (is_same_name name) names) (single_sound es names h.1) (single_sound es (name ∷ names) h.1)
  where
    by_name : (t : Bool) → AreSound (single_attributes names es) → AreSound (single_attributes (name ∷ names) es)
        → AreSound (if t then single_attributes names es else Attr name (last_value name value es) ∷ single_attributes (name ∷ names) es)
    by_name true same more = same
    by_name false same more = (record { named = h.0.named; plain = h.0.plain; text = value_text es name value h.1 h.0.text }, more)
single_sound (Space prefix uri ∷ es) names h = (h.0, single_sound es names h.1)
single_sound (Start name ∷ es) names h = (h.0, single_sound es [] h.1)
single_sound (Chars text ∷ es) names h = (h.0, single_sound es [] h.1)
single_sound (End ∷ es) names h = (h.0, single_sound es [] h.1)
single_sound (Comment text ∷ es) names h = (h.0, single_sound es [] h.1)
single_sound (Pi target text ∷ es) names h = (h.0, single_sound es [] h.1)

front_sound : (e : Event) (es : List Event) → IsSound e → AreSound es → AreSound (in_front e es)
unfolding in_front
front_sound (Chars text) [] h all = (h, all)
front_sound (Chars text) (Chars more ∷ es) h all = (IsUtf8-append text more h all.0, all.1)
front_sound (Chars text) (Start name ∷ es) h all = (h, all)
front_sound (Chars text) (Space prefix uri ∷ es) h all = (h, all)
front_sound (Chars text) (Attr name value ∷ es) h all = (h, all)
front_sound (Chars text) (End ∷ es) h all = (h, all)
front_sound (Chars text) (Comment more ∷ es) h all = (h, all)
front_sound (Chars text) (Pi target value ∷ es) h all = (h, all)
front_sound (Start name) es h all = (h, all)
front_sound (Space prefix uri) es h all = (h, all)
front_sound (Attr name value) es h all = (h, all)
front_sound End es h all = (h, all)
front_sound (Comment text) es h all = (h, all)
front_sound (Pi target value) es h all = (h, all)

joined_sound : (es : List Event) → AreSound es → AreSound (joined es)
unfolding joined
joined_sound [] h = tt
joined_sound (e ∷ es) h = front_sound e (joined es) h.0 (joined_sound es h.1)

pub built_sound : (es : List Event) → AreSound es → AreSound (built es)
unfolding built
built_sound es h = joined_sound (single_attributes [] (kept_from [] es)) (single_sound (kept_from [] es) [] (kept_sound es [] h))

-- ---- and there are not more of them
kept_length : (es before : List Event) → length (kept_from before es) ≤ length es
unfolding kept_from
kept_length [] before = omega arith
kept_length (e ∷ es) before = by_test (stays before e) (kept_length es (e ∷ before))
  where
    by_test : (t : Bool) → length (kept_from (e ∷ before) es) ≤ length es
        → length (if t then e ∷ kept_from (e ∷ before) es else kept_from (e ∷ before) es) ≤ length (e ∷ es)
    by_test true rest = omega (arith, rest)
    by_test false rest = omega (arith, rest)

one_longer : (e d : Event) (xs es : List Event) → length xs ≤ length es → length (e ∷ xs) ≤ length (d ∷ es)
one_longer e d xs es h = omega (arith, h)

single_length : (es : List Event) (names : List Label) → length (single_attributes names es) ≤ length es
unfolding single_attributes
single_length [] names = omega arith
single_length (Attr name value ∷ es) names = by_name (list_any (is_same_name name) names) (single_length es names) (single_length es (name ∷ names))
  where
    by_name : (t : Bool) → length (single_attributes names es) ≤ length es → length (single_attributes (name ∷ names) es) ≤ length es
        → length (if t then single_attributes names es else Attr name (last_value name value es) ∷ single_attributes (name ∷ names) es)
        ≤ length (Attr name value ∷ es)
    by_name true same more = omega (arith, same)
    by_name false same more = omega (arith, more)
single_length (Space prefix uri ∷ es) names = one_longer (Space prefix uri) (Space prefix uri) (single_attributes names es) es (single_length es names)
single_length (Start name ∷ es) names = one_longer (Start name) (Start name) (single_attributes [] es) es (single_length es [])
single_length (Chars text ∷ es) names = one_longer (Chars text) (Chars text) (single_attributes [] es) es (single_length es [])
single_length (End ∷ es) names = one_longer End End (single_attributes [] es) es (single_length es [])
single_length (Comment text ∷ es) names = one_longer (Comment text) (Comment text) (single_attributes [] es) es (single_length es [])
single_length (Pi target text ∷ es) names = one_longer (Pi target text) (Pi target text) (single_attributes [] es) es (single_length es [])

front_length : (e : Event) (es : List Event) → length (in_front e es) ≤ suc (length es)
unfolding in_front
front_length (Chars text) [] = omega arith
front_length (Chars text) (Chars more ∷ es) = longer (length es)
  where
    longer : (n : ℕ) → suc n ≤ suc (suc n)
    longer n = omega arith
front_length (Chars text) (Start name ∷ es) = omega arith
front_length (Chars text) (Space prefix uri ∷ es) = omega arith
front_length (Chars text) (Attr name value ∷ es) = omega arith
front_length (Chars text) (End ∷ es) = omega arith
front_length (Chars text) (Comment more ∷ es) = omega arith
front_length (Chars text) (Pi target value ∷ es) = omega arith
front_length (Start name) es = omega arith
front_length (Space prefix uri) es = omega arith
front_length (Attr name value) es = omega arith
front_length End es = omega arith
front_length (Comment text) es = omega arith
front_length (Pi target value) es = omega arith

joined_length : (es : List Event) → length (joined es) ≤ length es
unfolding joined
joined_length [] = omega arith
joined_length (e ∷ es) =
    let rest : length (joined es) ≤ length es = joined_length es in
    let one : length (in_front e (joined es)) ≤ suc (length (joined es)) = front_length e (joined es) in
    omega (arith, rest, one)

pub built_length : (es : List Event) → length (built es) ≤ length es
unfolding built
built_length es =
    let a : length (kept_from [] es) ≤ length es = kept_length es [] in
    let b : length (single_attributes [] (kept_from [] es)) ≤ length (kept_from [] es) = single_length (kept_from [] es) [] in
    let c : length (joined (single_attributes [] (kept_from [] es))) ≤ length (single_attributes [] (kept_from [] es)) =
    joined_length (single_attributes [] (kept_from [] es)) in
    omega (arith, a, b, c)
