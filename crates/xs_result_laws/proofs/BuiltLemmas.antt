-- What stays of events that can be written and are balanced is a result.
use Rattle.std.proofs.Common.{◌≡◌, ℕ, zero, suc, ◌-◌, List, [], ◌∷◌, ◌++◌, Bool, true, false, if◌then◌else◌, refl, ap, ◌∙◌}
use Rattle.std.proofs.Common.{All, arith}
use Rattle.std.specs.Prelude.{not}
use Rattle.std.specs.List.{AllByRecursion, list_any}
use Rattle.std.proofs.lemmas.List.Elements.{All-cons, All-nil}
use Rattle.xs_trace.specs.Label.{Label}
use Rattle.xs_trace.specs.declared.event.Event.{Event}
use Rattle.xs_trace.specs.declared.event.Event.TheVariants.{Start, Space, Attr, Chars, End, Comment, Pi}
use Rattle.xs_making.specs.Laws.{IsWellPut}
use Rattle.xs_making.specs.Texts as texts
use Rattle.xs_result.specs.Built.{built, depth, in_front, is_empty, is_same_name, is_start_open, joined, kept_from, last_value, single_attributes, stays}
use Rattle.xs_result_laws.specs.Events.{IsResult, is_balanced}

abbrev AreWellPut : List Event → Type 0
AreWellPut es = AllByRecursion IsWellPut es

-- ---- balanced
kept_balanced : (es before : List Event) (n : ℕ) → depth before ≡ n → is_balanced n es ≡ true → is_balanced n (kept_from before es) ≡ true
unfolding kept_from is_balanced
kept_balanced [] before zero d h = refl
kept_balanced [] before (suc n) d h = absurd (cc)
kept_balanced (Start name ∷ es) before n d h = kept_balanced es (Start name ∷ before) (suc n) (ap suc d) h
kept_balanced (Space prefix uri ∷ es) before n d h = by_tag (is_start_open before) (kept_balanced es (Space prefix uri ∷ before) n d h)
  where
    by_tag : (t : Bool) → is_balanced n (kept_from (Space prefix uri ∷ before) es) ≡ true
        → is_balanced n (if t then Space prefix uri ∷ kept_from (Space prefix uri ∷ before) es else kept_from (Space prefix uri ∷ before) es) ≡ true
    by_tag true rest = rest
    by_tag false rest = rest
kept_balanced (Attr name value ∷ es) before n d h = by_tag (is_start_open before) (kept_balanced es (Attr name value ∷ before) n d h)
  where
    by_tag : (t : Bool) → is_balanced n (kept_from (Attr name value ∷ before) es) ≡ true
        → is_balanced n (if t then Attr name value ∷ kept_from (Attr name value ∷ before) es else kept_from (Attr name value ∷ before) es) ≡ true
    by_tag true rest = rest
    by_tag false rest = rest
kept_balanced (Chars text ∷ es) before n d h = by_text (is_empty text) (kept_balanced es (Chars text ∷ before) n d h)
  where
    by_text : (t : Bool) → is_balanced n (kept_from (Chars text ∷ before) es) ≡ true
        → is_balanced n (if not t then Chars text ∷ kept_from (Chars text ∷ before) es else kept_from (Chars text ∷ before) es) ≡ true
    by_text true rest = rest
    by_text false rest = rest
kept_balanced (End ∷ es) before zero d h = absurd (cc)
kept_balanced (End ∷ es) before (suc n) d h =
    let less : depth before - 1 ≡ n = omega (arith, d) in
    rw d (kept_balanced es (End ∷ before) n less h)
kept_balanced (Comment text ∷ es) before n d h = kept_balanced es (Comment text ∷ before) n d h
kept_balanced (Pi target value ∷ es) before n d h = kept_balanced es (Pi target value ∷ before) n d h

single_balanced : (es : List Event) (names : List Label) (n : ℕ) → is_balanced n (single_attributes names es) ≡ is_balanced n es
unfolding single_attributes is_balanced
single_balanced [] names n = refl
single_balanced (Attr name value ∷ es) names n =
    by_name (list_any (is_same_name name) names) (single_balanced es names n) (single_balanced es (name ∷ names) n)
  where
    by_name : (t : Bool) → is_balanced n (single_attributes names es) ≡ is_balanced n es →
        is_balanced n (single_attributes (name ∷ names) es) ≡ is_balanced n es
        → is_balanced n (if t then single_attributes names es else Attr name (last_value name value es) ∷ single_attributes (name ∷ names) es)
        ≡ is_balanced n es
    by_name true same more = same
    by_name false same more = more
single_balanced (Space prefix uri ∷ es) names n = single_balanced es names n
single_balanced (Start name ∷ es) names n = single_balanced es [] (suc n)
single_balanced (Chars text ∷ es) names n = single_balanced es [] n
single_balanced (End ∷ es) names zero = refl
single_balanced (End ∷ es) names (suc n) = single_balanced es [] n
single_balanced (Comment text ∷ es) names n = single_balanced es [] n
single_balanced (Pi target value ∷ es) names n = single_balanced es [] n

more_balanced : (e : Event) (xs ys : List Event) (n : ℕ) → ((k : ℕ) → is_balanced k xs ≡ is_balanced k ys) → is_balanced n (e ∷ xs) ≡ is_balanced n (e ∷ ys)
unfolding is_balanced
more_balanced (Start name) xs ys n h = h (suc n)
more_balanced (Space prefix uri) xs ys n h = h n
more_balanced (Attr name value) xs ys n h = h n
more_balanced (Chars text) xs ys n h = h n
more_balanced End xs ys zero h = refl
more_balanced End xs ys (suc n) h = h n
more_balanced (Comment text) xs ys n h = h n
more_balanced (Pi target value) xs ys n h = h n

front_balanced : (e : Event) (es : List Event) (n : ℕ) → is_balanced n (in_front e es) ≡ is_balanced n (e ∷ es)
unfolding in_front is_balanced
front_balanced (Chars text) [] n = refl
front_balanced (Chars text) (Chars more ∷ es) n = refl
front_balanced (Chars text) (Start name ∷ es) n = refl
front_balanced (Chars text) (Space prefix uri ∷ es) n = refl
front_balanced (Chars text) (Attr name value ∷ es) n = refl
front_balanced (Chars text) (End ∷ es) n = refl
front_balanced (Chars text) (Comment more ∷ es) n = refl
front_balanced (Chars text) (Pi target value ∷ es) n = refl
front_balanced (Start name) es n = refl
front_balanced (Space prefix uri) es n = refl
front_balanced (Attr name value) es n = refl
front_balanced End es n = refl
front_balanced (Comment text) es n = refl
front_balanced (Pi target value) es n = refl

joined_balanced : (es : List Event) (n : ℕ) → is_balanced n (joined es) ≡ is_balanced n es
unfolding joined
joined_balanced [] n = refl
joined_balanced (e ∷ es) n = front_balanced e (joined es) n ∙ more_balanced e (joined es) es n (joined_balanced es)

-- so many open elements more
abbrev pub above : ℕ → ℕ → ℕ
above zero n = n
above (suc k) n = suc (above k n)

-- what is balanced leaves what follows as it is
pub balanced_over : (es : List Event) (k n : ℕ) (more : List Event) → is_balanced k es ≡ true → is_balanced (above k n) (es ++ more) ≡ is_balanced n more
unfolding is_balanced
balanced_over [] zero n more h = refl
balanced_over [] (suc k) n more h = absurd (cc)
balanced_over (Start name ∷ es) k n more h = balanced_over es (suc k) n more h
balanced_over (Space prefix uri ∷ es) k n more h = balanced_over es k n more h
balanced_over (Attr name value ∷ es) k n more h = balanced_over es k n more h
balanced_over (Chars text ∷ es) k n more h = balanced_over es k n more h
balanced_over (End ∷ es) zero n more h = absurd (cc)
balanced_over (End ∷ es) (suc k) n more h = balanced_over es k n more h
balanced_over (Comment text ∷ es) k n more h = balanced_over es k n more h
balanced_over (Pi target value ∷ es) k n more h = balanced_over es k n more h

-- ---- each event
kept_well : (es before : List Event) → AreWellPut es → AreWellPut (kept_from before es)
unfolding kept_from
kept_well [] before h = tt
kept_well (e ∷ es) before h = by_test (stays before e) (kept_well es (e ∷ before) h.1)
  where
    by_test : (t : Bool) → AreWellPut (kept_from (e ∷ before) es) → AreWellPut (if t then e ∷ kept_from (e ∷ before) es else kept_from (e ∷ before) es)
    by_test true rest = (h.0, rest)
    by_test false rest = rest

single_well : (es : List Event) (names : List Label) → AreWellPut es → AreWellPut (single_attributes names es)
unfolding single_attributes
single_well [] names h = tt
single_well (Attr name value ∷ es) names h = by_name (list_any (is_same_name name) names) (single_well es names h.1) (single_well es (name ∷ names) h.1)
  where
    by_name : (t : Bool) → AreWellPut (single_attributes names es) → AreWellPut (single_attributes (name ∷ names) es)
        → AreWellPut (if t then single_attributes names es else Attr name (last_value name value es) ∷ single_attributes (name ∷ names) es)
    by_name true same more = same
    by_name false same more = (h.0, more)
single_well (Space prefix uri ∷ es) names h = (h.0, single_well es names h.1)
single_well (Start name ∷ es) names h = (h.0, single_well es [] h.1)
single_well (Chars text ∷ es) names h = (h.0, single_well es [] h.1)
single_well (End ∷ es) names h = (h.0, single_well es [] h.1)
single_well (Comment text ∷ es) names h = (h.0, single_well es [] h.1)
single_well (Pi target text ∷ es) names h = (h.0, single_well es [] h.1)

joined_some : (text more : List ℕ) → texts.is_empty text ≡ false → texts.is_empty (text ++ more) ≡ false
joined_some [] more h = absurd (cc)
joined_some (b ∷ text) more h = refl

front_well : (e : Event) (es : List Event) → IsWellPut e → AreWellPut es → AreWellPut (in_front e es)
unfolding in_front
front_well (Chars text) [] h all = (h, all)
front_well (Chars text) (Chars more ∷ es) h all = (joined_some text more h, all.1)
front_well (Chars text) (Start name ∷ es) h all = (h, all)
front_well (Chars text) (Space prefix uri ∷ es) h all = (h, all)
front_well (Chars text) (Attr name value ∷ es) h all = (h, all)
front_well (Chars text) (End ∷ es) h all = (h, all)
front_well (Chars text) (Comment more ∷ es) h all = (h, all)
front_well (Chars text) (Pi target value ∷ es) h all = (h, all)
front_well (Start name) es h all = (h, all)
front_well (Space prefix uri) es h all = (h, all)
front_well (Attr name value) es h all = (h, all)
front_well End es h all = (h, all)
front_well (Comment text) es h all = (h, all)
front_well (Pi target value) es h all = (h, all)

joined_well : (es : List Event) → AreWellPut es → AreWellPut (joined es)
unfolding joined
joined_well [] h = tt
joined_well (e ∷ es) h = front_well e (joined es) h.0 (joined_well es h.1)

pub each_well : (es : List Event) → AreWellPut es → All IsWellPut es
each_well [] h = All-nil IsWellPut
each_well (e ∷ es) h = All-cons IsWellPut e es h.0 (each_well es h.1)

pub built_result : (es : List Event) → AreWellPut es → is_balanced 0 es ≡ true → IsResult (built es)
unfolding built
built_result es h b = record {
  balanced =
      joined_balanced (single_attributes [] (kept_from [] es)) 0 ∙ single_balanced (kept_from [] es) [] 0 ∙ kept_balanced es [] 0 refl b;
  named = each_well (joined (single_attributes [] (kept_from [] es)))
      (joined_well (single_attributes [] (kept_from [] es)) (single_well (kept_from [] es) [] (kept_well es [] h)));
}
