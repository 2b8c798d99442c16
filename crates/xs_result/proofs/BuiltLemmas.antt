-- What a builder has at the end is what stays of the events that came.
use Rattle.std.proofs.Common.{◌≡◌, ◌∙◌, ℕ, zero, suc, ◌-◌, ap, refl, sym, Bool, true, false, List, [], ◌∷◌, ◌++◌, subst, arith}
use Rattle.std.proofs.lemmas.Bool.{and_parts, true≢false}
use Rattle.std.proofs.lemmas.List.{append_assoc}
use Rattle.std.proofs.lemmas.List.Folds.{list_any-append}
use Rattle.std.proofs.lemmas.Slice.Eq.{bytes_eq-Decides}
use Rattle.std.specs.List.{list_any}
use Rattle.std.specs.Prelude.{◌&&◌, ◌||◌, if◌then◌else◌}
use Rattle.std.specs.Str.{bytes_eq}
use Rattle.xs_trace.specs.declared.event.Event.{Event}
use Rattle.xs_trace.specs.declared.event.Event.TheVariants.{Start, Space, Attr, Chars, End, Comment, Pi}
use Rattle.xs_trace.specs.Label.{Label}
use Rattle.xs_result.specs.Built.{built, depth, in_front, is_inside, is_same_name, is_start_open, joined, kept_from, last_value, single_attributes}
use Rattle.xs_result.specs.Building.{State, behind, began, ended, flushed, is_open, nothing, spoken, tagged, taken, taken_all, text_events}
use Rattle.xs_result.specs.Places.{is_attribute_of, revalued, with_attribute}

-- ---- what is to come, behind what is there
-- an attribute of the open start tag, with the last value that it gets
abbrev last_of : List Event → Event → Event
last_of k (Attr name value) = Attr name (last_value name value k)
last_of k (Start name) = Start name
last_of k (Space prefix uri) = Space prefix uri
last_of k (Chars text) = Chars text
last_of k End = End
last_of k (Comment text) = Comment text
last_of k (Pi target value) = Pi target value

abbrev updated : List Event → List Event → List Event
updated k [] = []
updated k (e ∷ es) = last_of k e ∷ updated k es

abbrev front : List ℕ → List Event → List Event
front [] es = es
front (b ∷ bs) es = in_front (Chars (b ∷ bs)) es

abbrev whole : State → List Label → List Event → List Event
whole s names k = s.closed ++ (updated k s.tag ++ front s.text (joined (single_attributes names k)))

-- ---- no two attributes of a start tag have one name
abbrev AreApart : List Event → Type 0
AreApart [] = Unit {0}
AreApart (e ∷ es) = ((uri local : List ℕ) → is_attribute_of uri local e ≡ true → list_any (is_attribute_of uri local) es ≡ false) × AreApart es

record Fits (before : List Event) (names : List Label) (s : State) : Type 0 where
  deep : depth before ≡ s.depth
  opened : is_start_open before ≡ is_open s.tag
  named : (x : Label) → list_any (is_same_name x) names ≡ list_any (is_attribute_of x.uri x.local) s.tag
  quiet : is_open s.tag ≡ true → s.text ≡ []
  top : s.depth ≡ 0 → is_open s.tag ≡ false
  apart : AreApart s.tag

-- ---- a child, or an end, behind what is there
abbrev is_child : Event → Bool
is_child (Start name) = true
is_child End = true
is_child (Comment text) = true
is_child (Pi target value) = true
is_child (Space prefix uri) = false
is_child (Attr name value) = false
is_child (Chars text) = false

stop : (name : Label) (value : List ℕ) (e : Event) (k : List Event) → is_child e ≡ true → value ≡ last_value name value (e ∷ k)
unfolding last_value
stop name value (Start other) k h = refl
stop name value End k h = refl
stop name value (Comment text) k h = refl
stop name value (Pi target more) k h = refl
stop name value (Space prefix uri) k h = absurd (cc)
stop name value (Attr other more) k h = absurd (cc)
stop name value (Chars text) k h = absurd (cc)

single-child : (names : List Label) (e : Event) (k : List Event) → is_child e ≡ true → single_attributes names (e ∷ k) ≡ e ∷ single_attributes [] k
unfolding single_attributes
single-child names (Start other) k h = refl
single-child names End k h = refl
single-child names (Comment text) k h = refl
single-child names (Pi target more) k h = refl
single-child names (Space prefix uri) k h = absurd (cc)
single-child names (Attr other more) k h = absurd (cc)
single-child names (Chars text) k h = absurd (cc)

joined-child : (e : Event) (es : List Event) → is_child e ≡ true → joined (e ∷ es) ≡ e ∷ joined es
unfolding joined in_front
joined-child (Start other) es h = refl
joined-child End es h = refl
joined-child (Comment text) es h = refl
joined-child (Pi target more) es h = refl
joined-child (Space prefix uri) es h = absurd (cc)
joined-child (Attr name value) es h = absurd (cc)
joined-child (Chars text) es h = absurd (cc)

front-child : (text : List ℕ) (e : Event) (es : List Event) → is_child e ≡ true → text_events text ++ e ∷ es ≡ front text (e ∷ es)
unfolding text_events in_front
front-child [] e es h = refl
front-child (b ∷ bs) (Start other) es h = refl
front-child (b ∷ bs) End es h = refl
front-child (b ∷ bs) (Comment text) es h = refl
front-child (b ∷ bs) (Pi target more) es h = refl
front-child (b ∷ bs) (Space prefix uri) es h = absurd (cc)
front-child (b ∷ bs) (Attr name value) es h = absurd (cc)
front-child (b ∷ bs) (Chars text) es h = absurd (cc)

last-child : (a e : Event) (k : List Event) → is_child e ≡ true → a ≡ last_of (e ∷ k) a
last-child (Attr name value) e k h = ap (Attr name) (stop name value e k h)
last-child (Start name) e k h = refl
last-child (Space prefix uri) e k h = refl
last-child (Chars text) e k h = refl
last-child End e k h = refl
last-child (Comment text) e k h = refl
last-child (Pi target value) e k h = refl

updated-child : (tag : List Event) (e : Event) (k : List Event) → is_child e ≡ true → tag ≡ updated (e ∷ k) tag
updated-child [] e k h = refl
updated-child (a ∷ tag) e k h = ap (λ x. x ∷ tag) (last-child a e k h) ∙ ap (λ xs. last_of (e ∷ k) a ∷ xs) (updated-child tag e k h)

child-whole : (s : State) (names : List Label) (e : Event) (k : List Event) → is_child e ≡ true
    → flushed s ++ e ∷ joined (single_attributes [] k) ≡ whole s names (e ∷ k)
unfolding flushed
child-whole s names e k h =
    let j = joined (single_attributes [] k) in
    append_assoc s.closed (s.tag ++ text_events s.text) (e ∷ j)
    ∙ ap (λ xs. s.closed ++ xs) (append_assoc s.tag (text_events s.text) (e ∷ j))
    ∙ ap (λ xs. s.closed ++ (s.tag ++ xs)) (front-child s.text e j h)
    ∙ ap (λ xs. s.closed ++ (xs ++ front s.text (e ∷ j))) (updated-child s.tag e k h)
    ∙ ap (λ xs. s.closed ++ (updated (e ∷ k) s.tag ++ front s.text xs))
    (sym (ap joined (single-child names e k h) ∙ joined-child e (single_attributes [] k) h))

-- ---- a text
updated-text : (tag : List Event) (text : List ℕ) (k : List Event) → tag ≡ updated (Chars text ∷ k) tag
unfolding last_value
updated-text [] text k = refl
updated-text (Attr name value ∷ tag) text k = ap (λ xs. Attr name value ∷ xs) (updated-text tag text k)
updated-text (Start name ∷ tag) text k = ap (λ xs. Start name ∷ xs) (updated-text tag text k)
updated-text (Space prefix uri ∷ tag) text k = ap (λ xs. Space prefix uri ∷ xs) (updated-text tag text k)
updated-text (Chars more ∷ tag) text k = ap (λ xs. Chars more ∷ xs) (updated-text tag text k)
updated-text (End ∷ tag) text k = ap (λ xs. End ∷ xs) (updated-text tag text k)
updated-text (Comment more ∷ tag) text k = ap (λ xs. Comment more ∷ xs) (updated-text tag text k)
updated-text (Pi target value ∷ tag) text k = ap (λ xs. Pi target value ∷ xs) (updated-text tag text k)

front-text : (text : List ℕ) (b : ℕ) (bs : List ℕ) (es : List Event) → front (text ++ b ∷ bs) es ≡ front text (in_front (Chars (b ∷ bs)) es)
unfolding in_front
front-text [] b bs es = refl
front-text (c ∷ cs) b bs [] = refl
front-text (c ∷ cs) b bs (Chars more ∷ es) = ap (λ t. Chars (c ∷ t) ∷ es) (append_assoc cs (b ∷ bs) more)
front-text (c ∷ cs) b bs (Start name ∷ es) = refl
front-text (c ∷ cs) b bs (Space prefix uri ∷ es) = refl
front-text (c ∷ cs) b bs (Attr name value ∷ es) = refl
front-text (c ∷ cs) b bs (End ∷ es) = refl
front-text (c ∷ cs) b bs (Comment text ∷ es) = refl
front-text (c ∷ cs) b bs (Pi target value ∷ es) = refl

-- ---- a namespace node, or an attribute, of the open start tag
updated-space : (tag : List Event) (prefix uri : List ℕ) (k : List Event) → updated k tag ≡ updated (Space prefix uri ∷ k) tag
unfolding last_value
updated-space [] prefix uri k = refl
updated-space (Attr name value ∷ tag) prefix uri k = ap (λ xs. Attr name (last_value name value k) ∷ xs) (updated-space tag prefix uri k)
updated-space (Start name ∷ tag) prefix uri k = ap (λ xs. Start name ∷ xs) (updated-space tag prefix uri k)
updated-space (Space one two ∷ tag) prefix uri k = ap (λ xs. Space one two ∷ xs) (updated-space tag prefix uri k)
updated-space (Chars text ∷ tag) prefix uri k = ap (λ xs. Chars text ∷ xs) (updated-space tag prefix uri k)
updated-space (End ∷ tag) prefix uri k = ap (λ xs. End ∷ xs) (updated-space tag prefix uri k)
updated-space (Comment text ∷ tag) prefix uri k = ap (λ xs. Comment text ∷ xs) (updated-space tag prefix uri k)
updated-space (Pi target value ∷ tag) prefix uri k = ap (λ xs. Pi target value ∷ xs) (updated-space tag prefix uri k)

updated-append : (k tag more : List Event) → updated k (tag ++ more) ≡ updated k tag ++ updated k more
updated-append k [] more = refl
updated-append k (e ∷ tag) more = ap (λ xs. last_of k e ∷ xs) (updated-append k tag more)

front-quiet : (text : List ℕ) (es : List Event) → text ≡ [] → front text es ≡ es
front-quiet [] es h = refl
front-quiet (b ∷ bs) es h = absurd (cc)

or-false : (a b : Bool) → (a || b) ≡ false → (a ≡ false) × (b ≡ false)
or-false false false h = (refl, refl)
or-false false true h = absurd (cc)
or-false true b h = absurd (cc)

or-flip : (a b : Bool) → (a || b) ≡ (b || a)
or-flip true true = refl
or-flip true false = refl
or-flip false true = refl
or-flip false false = refl

or-none : (a : Bool) → (a || false) ≡ a
or-none true = refl
or-none false = refl

module _ (name : Label) (value : List ℕ) (k : List Event) where
  abbrev is : Event → Bool
  is = is_attribute_of name.uri name.local

  -- where the start tag has none of this name
  last-other : (e : Event) → is e ≡ false → last_of k e ≡ last_of (Attr name value ∷ k) e
  unfolding last_value
  last-other (Attr other old) h = ap (λ (b : Bool). Attr other (if b then last_value other value k else last_value other old k)) (sym h)
  last-other (Start other) h = refl
  last-other (Space prefix uri) h = refl
  last-other (Chars text) h = refl
  last-other End h = refl
  last-other (Comment text) h = refl
  last-other (Pi target more) h = refl

  last-same : (e : Event) → is e ≡ true → last_of k (revalued value e) ≡ last_of (Attr name value ∷ k) e
  unfolding last_value
  last-same (Attr other old) h = ap (λ (b : Bool). Attr other (if b then last_value other value k else last_value other old k)) (sym h)
  last-same (Start other) h = refl
  last-same (Space prefix uri) h = refl
  last-same (Chars text) h = refl
  last-same End h = refl
  last-same (Comment text) h = refl
  last-same (Pi target more) h = refl

  updated-other : (tag : List Event) → list_any is tag ≡ false → updated k tag ≡ updated (Attr name value ∷ k) tag
  updated-other [] h = refl
  updated-other (e ∷ tag) h =
      let both = or-false (is e) (list_any is tag) h in
      ap (λ x. x ∷ updated k tag) (last-other e both.0) ∙ ap (λ xs. last_of (Attr name value ∷ k) e ∷ xs) (updated-other tag both.1)

  pub with-new : (tag : List Event) → list_any is tag ≡ false → with_attribute name value tag ≡ tag ++ Attr name value ∷ []
  unfolding with_attribute
  with-new [] h = refl
  with-new (e ∷ tag) h =
      let both = or-false (is e) (list_any is tag) h in
      ap (λ (b : Bool). if b then revalued value e ∷ tag else e ∷ with_attribute name value tag) both.0
      ∙ ap (λ xs. e ∷ xs) (with-new tag both.1)

  -- where it has one
  with-old-if : (e : Event) (tag : List Event) (b : Bool) → is e ≡ b → (list_any is tag ≡ true → updated k (with_attribute name value tag)
      ≡ updated (Attr name value ∷ k) tag)
      → (b ≡ true → list_any is tag ≡ false) → (b || list_any is tag) ≡ true
      → updated k (if b then revalued value e ∷ tag else e ∷ with_attribute name value tag)
      ≡ last_of (Attr name value ∷ k) e ∷ updated (Attr name value ∷ k) tag
  with-old-if e tag true h f g any =
      ap (λ x. x ∷ updated k tag) (last-same e h) ∙ ap (λ xs. last_of (Attr name value ∷ k) e ∷ xs) (updated-other tag (g refl))
  with-old-if e tag false h f g any = ap (λ x. x ∷ updated k (with_attribute name value tag)) (last-other e h)
      ∙ ap (λ xs. last_of (Attr name value ∷ k) e ∷ xs) (f any)

  with-old : (tag : List Event) → AreApart tag → list_any is tag ≡ true → updated k (with_attribute name value tag) ≡ updated (Attr name value ∷ k) tag
  unfolding with_attribute
  with-old [] apart any = absurd (cc)
  with-old (e ∷ tag) apart any =
      with-old-if e tag (is e) refl (with-old tag apart.1) (λ t. apart.0 name.uri name.local t) any

-- ---- names of a start tag after one more attribute
module _ (name : Label) (value : List ℕ) where
  revalued-same : (uri local : List ℕ) (e : Event) → is_attribute_of uri local (revalued value e) ≡ is_attribute_of uri local e
  revalued-same uri local (Attr other old) = refl
  revalued-same uri local (Start other) = refl
  revalued-same uri local (Space prefix more) = refl
  revalued-same uri local (Chars text) = refl
  revalued-same uri local End = refl
  revalued-same uri local (Comment text) = refl
  revalued-same uri local (Pi target more) = refl

  any-old-if : (uri local : List ℕ) (e : Event) (tag : List Event) (b : Bool)
      → (list_any (is_attribute_of name.uri name.local) tag ≡ true → list_any (is_attribute_of uri local) (with_attribute name value tag)
      ≡ list_any (is_attribute_of uri local) tag)
      → (b || list_any (is_attribute_of name.uri name.local) tag) ≡ true
      → list_any (is_attribute_of uri local) (if b then revalued value e ∷ tag else e ∷ with_attribute name value tag)
      ≡ list_any (is_attribute_of uri local) (e ∷ tag)
  any-old-if uri local e tag true f any = ap (λ b. b || list_any (is_attribute_of uri local) tag) (revalued-same uri local e)
  any-old-if uri local e tag false f any = ap (λ b. is_attribute_of uri local e || b) (f any)

  any-old : (uri local : List ℕ) (tag : List Event) → list_any (is_attribute_of name.uri name.local) tag ≡ true
      → list_any (is_attribute_of uri local) (with_attribute name value tag) ≡ list_any (is_attribute_of uri local) tag
  unfolding with_attribute
  any-old uri local [] any = absurd (cc)
  any-old uri local (e ∷ tag) any = any-old-if uri local e tag (is_attribute_of name.uri name.local e) (any-old uri local tag) any

  apart-old-if : (e : Event) (tag : List Event) (b : Bool)
      → (list_any (is_attribute_of name.uri name.local) tag ≡ true → AreApart (with_attribute name value tag))
      → (b || list_any (is_attribute_of name.uri name.local) tag) ≡ true → AreApart (e ∷ tag)
      → AreApart (if b then revalued value e ∷ tag else e ∷ with_attribute name value tag)
  apart-old-if e tag true f any apart = (λ uri local h. apart.0 uri local (sym (revalued-same uri local e) ∙ h), apart.1)
  apart-old-if e tag false f any apart = (λ uri local h. any-old uri local tag any ∙ apart.0 uri local h, f any)

  apart-old : (tag : List Event) → list_any (is_attribute_of name.uri name.local) tag ≡ true → AreApart tag → AreApart (with_attribute name value tag)
  unfolding with_attribute
  apart-old [] any apart = absurd (cc)
  apart-old (e ∷ tag) any apart = apart-old-if e tag (is_attribute_of name.uri name.local e) (λ t. apart-old tag t apart.1) any apart

  -- an expanded name that is that of the label
  same-if : (uri local : List ℕ) (e : Event) → (bytes_eq uri name.uri && bytes_eq local name.local) ≡ true → is_attribute_of uri local e
      ≡ is_attribute_of name.uri name.local e
  same-if uri local e h =
      let both = and_parts (bytes_eq uri name.uri) (bytes_eq local name.local) h in
      ap (λ u. is_attribute_of u local e) ((bytes_eq-Decides uri name.uri).0 both.0)
      ∙ ap (λ l. is_attribute_of name.uri l e) ((bytes_eq-Decides local name.local).0 both.1)

  no-new : (uri local : List ℕ) (e : Event) → is_attribute_of name.uri name.local e ≡ false → is_attribute_of uri local e ≡ true
      → (b : Bool) → (bytes_eq uri name.uri && bytes_eq local name.local) ≡ b → b ≡ false
  no-new uri local e none h true is = absurd (true≢false (sym h ∙ same-if uri local e is ∙ none))
  no-new uri local e none h false is = refl

  apart-new : (tag : List Event) → list_any (is_attribute_of name.uri name.local) tag ≡ false → AreApart tag → AreApart (tag ++ Attr name value ∷ [])
  apart-new [] none apart = (λ uri local h. refl, tt)
  apart-new (e ∷ tag) none apart =
      let both = or-false (is_attribute_of name.uri name.local e) (list_any (is_attribute_of name.uri name.local) tag) none in (
        λ uri local h.
            list_any-append (is_attribute_of uri local) tag (Attr name value ∷ [])
            ∙ ap (λ b. b || (is_attribute_of uri local (Attr name value) || false)) (apart.0 uri local h)
            ∙ ap (λ b. b || false) (no-new uri local e both.0 h (is_attribute_of uri local (Attr name value)) refl),
        apart-new tag both.1 apart.1,
      )

apart-space : (prefix uri : List ℕ) (tag : List Event) → AreApart tag → AreApart (tag ++ Space prefix uri ∷ [])
apart-space prefix uri [] apart = (λ u l h. refl, tt)
apart-space prefix uri (e ∷ tag) apart =
    (λ u l h. list_any-append (is_attribute_of u l) tag (Space prefix uri ∷ []) ∙ ap (λ b. b || false) (apart.0 u l h), apart-space prefix uri tag apart.1)

open-behind : (tag : List Event) (e : Event) → is_open (tag ++ e ∷ []) ≡ true
open-behind [] e = refl
open-behind (x ∷ tag) e = refl

open-if : (b : Bool) (xs ys : List Event) → is_open xs ≡ true → is_open ys ≡ true → is_open (if b then xs else ys) ≡ true
open-if true xs ys p q = p
open-if false xs ys p q = q

open-with : (name : Label) (value : List ℕ) (tag : List Event) → is_open (with_attribute name value tag) ≡ true
unfolding with_attribute
open-with name value [] = refl
open-with name value (e ∷ tag) = open-if (is_attribute_of name.uri name.local e) (revalued value e ∷ tag) (e ∷ with_attribute name value tag) refl refl

-- ---- the steps, one kind of event after the other
abbrev Holds : List Event → Type 0
Holds es = (before : List Event) (names : List Label) (s : State) → Fits before names s
    → flushed (taken_all s es) ≡ whole s names (kept_from before es)

zero-not : (n : ℕ) → suc n ≡ 0 → ⊥
zero-not n h = omega (arith, h)

module _ (es : List Event) (ih : Holds es) (before : List Event) (names : List Label) (s : State) (f : Fits before names s) where
  start-step : (name : Label) → flushed (taken_all (taken s (Start name)) es) ≡ whole s names (kept_from before (Start name ∷ es))
  unfolding taken kept_from
  start-step name =
      ih (Start name ∷ before) [] (began name s)
      (record {
        deep = ap suc f.deep;
        opened = refl;
        named = λ x. refl;
        quiet = λ h. refl;
        top = λ h. absurd (zero-not s.depth h);
        apart = (λ uri local h. refl, tt);
      })
      ∙ child-whole s names (Start name) (kept_from (Start name ∷ before) es) refl

  -- a comment or an instruction
  behind-step : (e : Event) → is_child e ≡ true → depth (e ∷ before) ≡ s.depth → is_start_open (e ∷ before) ≡ false
      → flushed (taken_all (behind e s) es) ≡ whole s names (e ∷ kept_from (e ∷ before) es)
  behind-step e h deep closed =
      ih (e ∷ before) [] (behind e s)
      (record { deep = deep; opened = closed; named = λ x. refl; quiet = λ h. refl; top = λ h. refl; apart = tt })
      ∙ append_assoc (flushed s) (e ∷ []) (joined (single_attributes [] (kept_from (e ∷ before) es)))
      ∙ child-whole s names e (kept_from (e ∷ before) es) h

  comment-step : (text : List ℕ) → flushed (taken_all (taken s (Comment text)) es) ≡ whole s names (kept_from before (Comment text ∷ es))
  unfolding taken kept_from
  comment-step text = behind-step (Comment text) refl f.deep refl

  pi-step : (target value : List ℕ) → flushed (taken_all (taken s (Pi target value)) es) ≡ whole s names (kept_from before (Pi target value ∷ es))
  unfolding taken kept_from
  pi-step target value = behind-step (Pi target value) refl f.deep refl

  end-if : (n : ℕ) → s.depth ≡ n
      → flushed (taken_all (ended n s) es) ≡ whole s names (if is_inside n then End ∷ kept_from (End ∷ before) es else kept_from (End ∷ before) es)
  end-if zero h =
      ih (End ∷ before) names s
      (record {
        deep = ap (λ d. d - 1) (f.deep ∙ h) ∙ sym h;
        opened = sym (f.top h);
        named = f.named;
        quiet = f.quiet;
        top = f.top;
        apart = f.apart;
      })
  end-if (suc n) h =
      ih (End ∷ before) [] (ended (suc n) s)
      (record { deep = let same = f.deep ∙ h in omega (arith, same); opened = refl; named = λ x. refl; quiet = λ h. refl; top = λ h. refl; apart = tt })
      ∙ append_assoc (flushed s) (End ∷ []) (joined (single_attributes [] (kept_from (End ∷ before) es)))
      ∙ child-whole s names End (kept_from (End ∷ before) es) refl

  end-step : flushed (taken_all (taken s End) es) ≡ whole s names (kept_from before (End ∷ es))
  unfolding taken kept_from
  end-step =
      end-if s.depth refl
      ∙ ap (λ d. whole s names (if is_inside d then End ∷ kept_from (End ∷ before) es else kept_from (End ∷ before) es)) (sym f.deep)

  text-whole : (b : ℕ) (bs : List ℕ) (k : List Event)
      → (s.closed ++ s.tag) ++ front (s.text ++ b ∷ bs) (joined (single_attributes [] k)) ≡ whole s names (Chars (b ∷ bs) ∷ k)
  unfolding single_attributes joined
  text-whole b bs k =
      let j = joined (single_attributes [] k) in
      append_assoc s.closed s.tag (front (s.text ++ b ∷ bs) j)
      ∙ ap (λ xs. s.closed ++ (s.tag ++ xs)) (front-text s.text b bs j)
      ∙ ap (λ xs. s.closed ++ (xs ++ front s.text (in_front (Chars (b ∷ bs)) j))) (updated-text s.tag (b ∷ bs) k)

  text-step : (text : List ℕ) → flushed (taken_all (taken s (Chars text)) es) ≡ whole s names (kept_from before (Chars text ∷ es))
  unfolding taken kept_from
  text-step [] =
      ih (Chars [] ∷ before) names s
      (record { deep = f.deep; opened = f.opened; named = f.named; quiet = f.quiet; top = f.top; apart = f.apart })
  text-step (b ∷ bs) =
      ih (Chars (b ∷ bs) ∷ before) [] (spoken (b ∷ bs) s)
      (record { deep = f.deep; opened = refl; named = λ x. refl; quiet = λ h. absurd (true≢false (sym h)); top = λ h. refl; apart = tt })
      ∙ text-whole b bs (kept_from (Chars (b ∷ bs) ∷ before) es)

  -- what is added to the start tag, or ignored
  space-whole : (prefix uri : List ℕ) (k : List Event) → is_open s.tag ≡ true
      → whole (tagged (s.tag ++ Space prefix uri ∷ []) s) names k ≡ whole s names (Space prefix uri ∷ k)
  unfolding single_attributes joined in_front
  space-whole prefix uri k h =
      let j = joined (single_attributes names k) in
      ap (λ xs. s.closed ++ (xs ++ front s.text j)) (updated-append k s.tag (Space prefix uri ∷ []))
      ∙ ap (λ xs. s.closed ++ xs) (append_assoc (updated k s.tag) (Space prefix uri ∷ []) (front s.text j))
      ∙ ap (λ xs. s.closed ++ (updated k s.tag ++ Space prefix uri ∷ xs)) (front-quiet s.text j (f.quiet h))
      ∙ ap (λ xs. s.closed ++ (updated k s.tag ++ xs)) (sym (front-quiet s.text (Space prefix uri ∷ j) (f.quiet h)))
      ∙ ap (λ xs. s.closed ++ (xs ++ front s.text (Space prefix uri ∷ j))) (updated-space s.tag prefix uri k)

  space-if : (prefix uri : List ℕ) (o : Bool) → is_open s.tag ≡ o
      → flushed (taken_all (if o then tagged (s.tag ++ Space prefix uri ∷ []) s else s) es)
      ≡ whole s names (if o then Space prefix uri ∷ kept_from (Space prefix uri ∷ before) es else kept_from (Space prefix uri ∷ before) es)
  space-if prefix uri false h =
      ih (Space prefix uri ∷ before) names s
      (record { deep = f.deep; opened = f.opened; named = f.named; quiet = f.quiet; top = f.top; apart = f.apart })
  space-if prefix uri true h =
      ih (Space prefix uri ∷ before) names (tagged (s.tag ++ Space prefix uri ∷ []) s)
      (record {
        deep = f.deep;
        opened = f.opened ∙ h ∙ sym (open-behind s.tag (Space prefix uri));
        named = λ x.
            f.named x ∙ sym (or-none (list_any (is_attribute_of x.uri x.local) s.tag))
            ∙ sym (list_any-append (is_attribute_of x.uri x.local) s.tag (Space prefix uri ∷ []));
        quiet = λ t. f.quiet h;
        top = λ t. absurd (true≢false (sym h ∙ f.top t));
        apart = apart-space prefix uri s.tag f.apart;
      })
      ∙ space-whole prefix uri (kept_from (Space prefix uri ∷ before) es) h

  space-step : (prefix uri : List ℕ) → flushed (taken_all (taken s (Space prefix uri)) es) ≡ whole s names (kept_from before (Space prefix uri ∷ es))
  unfolding taken kept_from
  space-step prefix uri =
      space-if prefix uri (is_open s.tag) refl
      ∙ ap (λ (b : Bool). whole s names (if b then Space prefix uri ∷ kept_from (Space prefix uri ∷ before) es else kept_from (Space prefix uri ∷ before) es))
      (sym f.opened)

  -- an attribute of the open start tag
  module _ (name : Label) (value : List ℕ) (h : is_open s.tag ≡ true) where
    abbrev k : List Event
    k = kept_from (Attr name value ∷ before) es

    abbrev any : Bool
    any = list_any (is_attribute_of name.uri name.local) s.tag

    fits-new : any ≡ false → Fits (Attr name value ∷ before) (name ∷ names) (tagged (with_attribute name value s.tag) s)
    fits-new none = record {
      deep = f.deep;
      opened = f.opened ∙ h ∙ sym (open-with name value s.tag);
      named = λ x.
          ap (λ b. is_same_name x name || b) (f.named x) ∙ or-flip (is_same_name x name) (list_any (is_attribute_of x.uri x.local) s.tag)
          ∙ ap (λ b. list_any (is_attribute_of x.uri x.local) s.tag || b) (sym (or-none (is_same_name x name)))
          ∙ sym (list_any-append (is_attribute_of x.uri x.local) s.tag (Attr name value ∷ []))
          ∙ ap (list_any (is_attribute_of x.uri x.local)) (sym (with-new name value [] s.tag none));
      quiet = λ t. f.quiet h;
      top = λ t. absurd (true≢false (sym h ∙ f.top t));
      apart = subst AreApart (sym (with-new name value [] s.tag none)) (apart-new name value s.tag none f.apart);
    }

    fits-old : any ≡ true → Fits (Attr name value ∷ before) names (tagged (with_attribute name value s.tag) s)
    fits-old some = record {
      deep = f.deep;
      opened = f.opened ∙ h ∙ sym (open-with name value s.tag);
      named = λ x. f.named x ∙ sym (any-old name value x.uri x.local s.tag some);
      quiet = λ t. f.quiet h;
      top = λ t. absurd (true≢false (sym h ∙ f.top t));
      apart = apart-old name value s.tag some f.apart;
    }

    new-whole : any ≡ false → whole (tagged (with_attribute name value s.tag) s) (name ∷ names) k
        ≡ s.closed ++ (updated (Attr name value ∷ k) s.tag ++ front s.text (joined (Attr name (last_value name value k) ∷ single_attributes (name ∷ names) k)))
    unfolding joined in_front
    new-whole none =
        let j = joined (single_attributes (name ∷ names) k) in
        let a = Attr name (last_value name value k) in
        ap (λ xs. s.closed ++ (updated k xs ++ front s.text j)) (with-new name value [] s.tag none)
        ∙ ap (λ xs. s.closed ++ (xs ++ front s.text j)) (updated-append k s.tag (Attr name value ∷ []))
        ∙ ap (λ xs. s.closed ++ xs) (append_assoc (updated k s.tag) (a ∷ []) (front s.text j))
        ∙ ap (λ xs. s.closed ++ (updated k s.tag ++ a ∷ xs)) (front-quiet s.text j (f.quiet h))
        ∙ ap (λ xs. s.closed ++ (updated k s.tag ++ xs)) (sym (front-quiet s.text (a ∷ j) (f.quiet h)))
        ∙ ap (λ xs. s.closed ++ (xs ++ front s.text (a ∷ j))) (updated-other name value k s.tag none)

    attribute-if : (b : Bool) → any ≡ b → flushed (taken_all (tagged (with_attribute name value s.tag) s) es)
        ≡ s.closed ++ (updated (Attr name value ∷ k) s.tag
        ++ front s.text (joined (if b then single_attributes names k else Attr name (last_value name value k) ∷ single_attributes (name ∷ names) k)))
    attribute-if true some =
        ih (Attr name value ∷ before) names (tagged (with_attribute name value s.tag) s) (fits-old some)
        ∙ ap (λ xs. s.closed ++ (xs ++ front s.text (joined (single_attributes names k)))) (with-old name value k s.tag f.apart some)
    attribute-if false none =
        ih (Attr name value ∷ before) (name ∷ names) (tagged (with_attribute name value s.tag) s) (fits-new none) ∙ new-whole none

    attribute-open : flushed (taken_all (tagged (with_attribute name value s.tag) s) es) ≡ whole s names (Attr name value ∷ k)
    unfolding single_attributes
    attribute-open =
        attribute-if any refl
        ∙ ap (λ (b : Bool). s.closed ++ (updated (Attr name value ∷ k) s.tag
        ++ front s.text (joined (if b then single_attributes names k else Attr name (last_value name value k) ∷ single_attributes (name ∷ names) k))))
        (sym (f.named name))

  attribute-or-not : (name : Label) (value : List ℕ) (o : Bool) → is_open s.tag ≡ o
      → flushed (taken_all (if o then tagged (with_attribute name value s.tag) s else s) es)
      ≡ whole s names (if o then Attr name value ∷ kept_from (Attr name value ∷ before) es else kept_from (Attr name value ∷ before) es)
  attribute-or-not name value true h = attribute-open name value h
  attribute-or-not name value false h =
      ih (Attr name value ∷ before) names s
      (record { deep = f.deep; opened = f.opened; named = f.named; quiet = f.quiet; top = f.top; apart = f.apart })

  attribute-step : (name : Label) (value : List ℕ) → flushed (taken_all (taken s (Attr name value)) es)
      ≡ whole s names (kept_from before (Attr name value ∷ es))
  unfolding taken kept_from
  attribute-step name value =
      attribute-or-not name value (is_open s.tag) refl
      ∙ ap (λ (b : Bool). whole s names (if b then Attr name value ∷ kept_from (Attr name value ∷ before) es else kept_from (Attr name value ∷ before) es))
      (sym f.opened)

-- ---- all events
updated-none : (tag : List Event) → tag ≡ updated [] tag
unfolding last_value
updated-none [] = refl
updated-none (Attr name value ∷ tag) = ap (λ xs. Attr name value ∷ xs) (updated-none tag)
updated-none (Start name ∷ tag) = ap (λ xs. Start name ∷ xs) (updated-none tag)
updated-none (Space prefix uri ∷ tag) = ap (λ xs. Space prefix uri ∷ xs) (updated-none tag)
updated-none (Chars text ∷ tag) = ap (λ xs. Chars text ∷ xs) (updated-none tag)
updated-none (End ∷ tag) = ap (λ xs. End ∷ xs) (updated-none tag)
updated-none (Comment text ∷ tag) = ap (λ xs. Comment text ∷ xs) (updated-none tag)
updated-none (Pi target value ∷ tag) = ap (λ xs. Pi target value ∷ xs) (updated-none tag)

front-none : (text : List ℕ) → text_events text ≡ front text []
unfolding text_events in_front
front-none [] = refl
front-none (b ∷ bs) = refl

all-steps : (es : List Event) → Holds es
unfolding taken_all flushed kept_from single_attributes joined
all-steps [] before names s f =
    ap (λ xs. s.closed ++ (s.tag ++ xs)) (front-none s.text) ∙ ap (λ xs. s.closed ++ (xs ++ front s.text [])) (updated-none s.tag)
all-steps (Start name ∷ es) before names s f = start-step es (all-steps es) before names s f name
all-steps (Space prefix uri ∷ es) before names s f = space-step es (all-steps es) before names s f prefix uri
all-steps (Attr name value ∷ es) before names s f = attribute-step es (all-steps es) before names s f name value
all-steps (Chars text ∷ es) before names s f = text-step es (all-steps es) before names s f text
all-steps (End ∷ es) before names s f = end-step es (all-steps es) before names s f
all-steps (Comment text ∷ es) before names s f = comment-step es (all-steps es) before names s f text
all-steps (Pi target value ∷ es) before names s f = pi-step es (all-steps es) before names s f target value

pub built_is : (es : List Event) → flushed (taken_all nothing es) ≡ built es
unfolding built
built_is es =
    all-steps es [] [] nothing (record { deep = refl; opened = refl; named = λ x. refl; quiet = λ h. refl; top = λ h. refl; apart = tt })

-- one event more
pub taken_behind : (s : State) (es : List Event) (e : Event) → taken_all s (es ++ e ∷ []) ≡ taken (taken_all s es) e
unfolding taken_all
taken_behind s [] e = refl
taken_behind s (x ∷ es) e = taken_behind (taken s x) es e
