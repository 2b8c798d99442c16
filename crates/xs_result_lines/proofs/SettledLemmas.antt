-- What a builder has for good is what is settled of the events that came.
use Rattle.std.proofs.Common.{◌≡◌, ◌∙◌, ℕ, zero, suc, ap, refl, sym, Bool, true, false, List, [], ◌∷◌, ◌++◌, if◌then◌else◌}
use Rattle.std.proofs.Math.Bool.{and-false}
use Rattle.std.proofs.lemmas.Bool.{true≢false}
use Rattle.std.proofs.lemmas.List.{append-nil}
use Rattle.std.proofs.lemmas.List.Folds.{list_all-append}
use Rattle.std.specs.List.{list_all}
use Rattle.std.specs.Prelude.{◌&&◌}
use Rattle.xs_result.specs.Built.{built, is_empty}
use Rattle.xs_result.specs.Building.{State, ended, flushed, is_open, nothing, spoken, tagged, taken, taken_all, text_events}
use Rattle.xs_result.specs.Places.{is_attribute_of, revalued, with_attribute}
use Rattle.xs_result.proofs.BuiltLemmas.{built_is}
use Rattle.xs_trace.specs.Label.{Label}
use Rattle.xs_trace.specs.declared.event.Event.{Event}
use Rattle.xs_trace.specs.declared.event.Event.TheVariants.{Start, Space, Attr, Chars, End, Comment, Pi}
use Rattle.xs_result_lines.specs.Bindings.{is_in_tag}
use Rattle.xs_result_lines.specs.Settled.{may_grow, settled, settled_in}

-- ---- what stands before an event that is no part of a start tag is settled
not-all : (xs : List Event) (e : Event) (es : List Event) → is_in_tag e ≡ false → list_all is_in_tag (xs ++ e ∷ es) ≡ false
not-all [] e es h = ap (λ t. t && list_all is_in_tag es) h
not-all (x ∷ xs) e es h = ap (λ t. is_in_tag x && t) (not-all xs e es h) ∙ and-false (is_in_tag x)

grown : (x : Event) (xs : List Event) (e : Event) (es : List Event) → is_in_tag e ≡ false → may_grow x (xs ++ e ∷ es) ≡ false
grown (Start name) xs e es h = not-all xs e es h
grown (Chars text) [] e es h = refl
grown (Chars text) (x ∷ xs) e es h = refl
grown (Space prefix uri) xs e es h = refl
grown (Attr name value) xs e es h = refl
grown End xs e es h = refl
grown (Comment text) xs e es h = refl
grown (Pi target value) xs e es h = refl

settled-before : (xs : List Event) (e : Event) (es : List Event) → is_in_tag e ≡ false → settled_in (xs ++ e ∷ es) ≡ xs ++ settled_in (e ∷ es)
unfolding settled_in
settled-before [] e es h = refl
settled-before (x ∷ xs) e es h =
    ap (λ t. if t then [] else x ∷ settled_in (xs ++ e ∷ es)) (grown x xs e es h) ∙ ap (λ ys. x ∷ ys) (settled-before xs e es h)

growing-tag : (name : Label) (es : List Event) → list_all is_in_tag es ≡ true → settled_in (Start name ∷ es) ≡ []
unfolding settled_in
growing-tag name es h = ap (λ t. if t then [] else Start name ∷ settled_in es) h

growing-text : (text : List ℕ) → settled_in (Chars text ∷ []) ≡ []
unfolding settled_in
growing-text text = refl

-- ---- what may be open: nothing, a start tag, or a text
data Form (s : State) : Type 0 where
  closed : s.tag ≡ [] → s.text ≡ [] → settled_in s.closed ≡ s.closed → Form s
  in_tag : (name : Label) (es : List Event) → s.tag ≡ Start name ∷ es → list_all is_in_tag es ≡ true → s.text ≡ [] → Form s
  in_text : s.tag ≡ [] → is_empty s.text ≡ false → Form s

flushed-is : (s : State) (tag : List Event) (text : List ℕ) → s.tag ≡ tag → s.text ≡ text → flushed s ≡ s.closed ++ (tag ++ text_events text)
unfolding flushed
flushed-is s tag text e n = ap (λ x. s.closed ++ (x ++ text_events s.text)) e ∙ ap (λ x. s.closed ++ (tag ++ text_events x)) n

no-text : (xs : List Event) → xs ++ text_events [] ≡ xs
unfolding text_events
no-text xs = append-nil xs

some-text : (text : List ℕ) → is_empty text ≡ false → text_events text ≡ Chars text ∷ []
unfolding text_events
some-text text h = ap (λ t. if t then [] else Chars text ∷ []) h

form-closed : (s : State) → Form s → settled_in (flushed s) ≡ s.closed
form-closed s (closed e n h) =
    ap settled_in (flushed-is s [] [] e n ∙ ap (λ x. s.closed ++ x) (no-text []) ∙ append-nil s.closed) ∙ h
form-closed s (in_tag name es e a n) =
    ap settled_in (flushed-is s (Start name ∷ es) [] e n ∙ ap (λ x. s.closed ++ x) (no-text (Start name ∷ es)))
    ∙ settled-before s.closed (Start name) es refl ∙ ap (λ x. s.closed ++ x) (growing-tag name es a) ∙ append-nil s.closed
form-closed s (in_text e h) =
    ap settled_in (flushed-is s [] s.text e refl ∙ ap (λ x. s.closed ++ x) (some-text s.text h))
    ∙ settled-before s.closed (Chars s.text) [] refl ∙ ap (λ x. s.closed ++ x) (growing-text s.text) ∙ append-nil s.closed

-- ---- each event leaves one of these
settled-end : (xs : List Event) (e : Event) → is_in_tag e ≡ false → may_grow e [] ≡ false → settled_in (xs ++ e ∷ []) ≡ xs ++ e ∷ []
unfolding settled_in
settled-end xs e h g = settled-before xs e [] h ∙ ap (λ t. xs ++ (if t then [] else e ∷ [])) g

all-with : (name : Label) (value : List ℕ) (es : List Event) → list_all is_in_tag es ≡ true → list_all is_in_tag (with_attribute name value es) ≡ true
unfolding with_attribute
all-with name value [] h = refl
all-with name value (e ∷ es) h = by_test (is_attribute_of name.uri name.local e) (all-with name value es)
  where
    same : (x : Event) → is_in_tag (revalued value x) ≡ is_in_tag x
    same (Attr other old) = refl
    same (Space prefix uri) = refl
    same (Start other) = refl
    same (Chars text) = refl
    same End = refl
    same (Comment text) = refl
    same (Pi target old) = refl

    rest : (b t : Bool) → (b && t) ≡ true → t ≡ true
    rest true t k = k
    rest false t k = absurd (cc)

    first : (b t u : Bool) → (b && t) ≡ true → u ≡ true → (b && u) ≡ true
    first true t u k l = l
    first false t u k l = absurd (cc)

    by_test : (t : Bool) → (list_all is_in_tag es ≡ true → list_all is_in_tag (with_attribute name value es) ≡ true)
        → list_all is_in_tag (if t then revalued value e ∷ es else e ∷ with_attribute name value es) ≡ true
    by_test true more = ap (λ b. b && list_all is_in_tag es) (same e) ∙ h
    by_test false more =
        first (is_in_tag e) (list_all is_in_tag es) (list_all is_in_tag (with_attribute name value es)) h
        (more (rest (is_in_tag e) (list_all is_in_tag es) h))

all-behind : (es : List Event) (e : Event) → list_all is_in_tag es ≡ true → is_in_tag e ≡ true → list_all is_in_tag (es ++ e ∷ []) ≡ true
all-behind es e h k = list_all-append is_in_tag es (e ∷ []) ∙ ap (λ t. t && list_all is_in_tag (e ∷ [])) h ∙ ap (λ t. t && true) k

space-form : (s : State) (prefix uri : List ℕ) → Form s → is_open s.tag ≡ true → Form (tagged (s.tag ++ Space prefix uri ∷ []) s)
space-form s prefix uri (closed e n h) o = absurd (true≢false (sym o ∙ ap is_open e))
space-form s prefix uri (in_tag name es e a n) o =
    in_tag name (es ++ Space prefix uri ∷ []) (ap (λ x. x ++ Space prefix uri ∷ []) e) (all-behind es (Space prefix uri) a refl) n
space-form s prefix uri (in_text e h) o = absurd (true≢false (sym o ∙ ap is_open e))

with-start : (label : Label) (value : List ℕ) (name : Label) (es : List Event)
    → with_attribute label value (Start name ∷ es) ≡ Start name ∷ with_attribute label value es
unfolding with_attribute
with-start label value name es = refl

attribute-form : (s : State) (label : Label) (value : List ℕ) → Form s → is_open s.tag ≡ true → Form (tagged (with_attribute label value s.tag) s)
attribute-form s label value (closed e n h) o = absurd (true≢false (sym o ∙ ap is_open e))
attribute-form s label value (in_tag name es e a n) o =
    in_tag name (with_attribute label value es) (ap (with_attribute label value) e ∙ with-start label value name es) (all-with label value es a) n
attribute-form s label value (in_text e h) o = absurd (true≢false (sym o ∙ ap is_open e))

more-text : (xs : List ℕ) (b : ℕ) (bs : List ℕ) → is_empty (xs ++ b ∷ bs) ≡ false
more-text [] b bs = refl
more-text (x ∷ xs) b bs = refl

chars-form : (s : State) (text : List ℕ) → Form s → Form (if is_empty text then s else spoken text s)
chars-form s [] f = f
chars-form s (b ∷ bs) f = in_text refl (more-text s.text b bs)

child-form : (s : State) (e : Event) (n : ℕ) → is_in_tag e ≡ false → may_grow e [] ≡ false
    → Form (record { closed = flushed s ++ e ∷ []; tag = []; text = []; depth = n })
child-form s e n h g = closed refl refl (settled-end (flushed s) e h g)

ended-form : (s : State) (n : ℕ) → Form s → Form (ended n s)
ended-form s zero f = f
ended-form s (suc n) f = child-form s End n refl refl

event-form : (s : State) (e : Event) → Form s → Form (taken s e)
unfolding taken
event-form s (Start name) f = in_tag name [] refl refl refl
event-form s (Space prefix uri) f = by_test (is_open s.tag) refl
  where
    by_test : (t : Bool) → is_open s.tag ≡ t → Form (if t then tagged (s.tag ++ Space prefix uri ∷ []) s else s)
    by_test true at = space-form s prefix uri f at
    by_test false at = f
event-form s (Attr name value) f = by_test (is_open s.tag) refl
  where
    by_test : (t : Bool) → is_open s.tag ≡ t → Form (if t then tagged (with_attribute name value s.tag) s else s)
    by_test true at = attribute-form s name value f at
    by_test false at = f
event-form s (Chars text) f = chars-form s text f
event-form s End f = ended-form s s.depth f
event-form s (Comment text) f = child-form s (Comment text) s.depth refl refl
event-form s (Pi target value) f = child-form s (Pi target value) s.depth refl refl

events-form : (es : List Event) (s : State) → Form s → Form (taken_all s es)
unfolding taken_all
events-form [] s f = f
events-form (e ∷ es) s f = events-form es (taken s e) (event-form s e f)

none-settled : settled_in [] ≡ []
unfolding settled_in
none-settled = refl

pub closed_is : (es : List Event) → (taken_all nothing es).closed ≡ settled es
closed_is es =
    sym (form-closed (taken_all nothing es) (events-form es nothing (closed refl refl none-settled))) ∙ ap settled_in (built_is es)
