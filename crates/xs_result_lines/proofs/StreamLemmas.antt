-- What stays for good is handed on step by step.
use Rattle.std.proofs.Common.{◌≡◌, ℕ, zero, suc, Bool, true, false, if◌then◌else◌, List, [], ◌∷◌, ◌++◌, Result, Ok, Err, OnOk, arith, inl, inr, length, refl, sym, take, ◌∙◌, ap, append_assoc}
use Rattle.std.proofs.lemmas.Bool.Decides.{leb_tells}
use Rattle.std.proofs.lemmas.List.{append-nil, take-take, take_all}
use Rattle.std.proofs.lemmas.List.Concat.{flat_map-append}
use Rattle.xs_pyx.specs.Writing.{written}
use Rattle.xs_pyx.specs.declared.line.Line.{Line}
use Rattle.xs_result.specs.Built.{built, is_empty}
use Rattle.xs_result.specs.Building.{State, ended, flushed, forgotten, is_open, nothing, spoken, tagged, taken, taken_all, text_events}
use Rattle.xs_result.specs.Places.{is_attribute_of, revalued, with_attribute}
use Rattle.xs_result.proofs.BuiltLemmas.{built_is, taken_behind}
use Rattle.xs_trace.specs.Label.{Label}
use Rattle.xs_trace.specs.declared.event.Event.{Event}
use Rattle.xs_trace.specs.declared.event.Event.TheVariants.{Start, Space, Attr, Chars, End, Comment, Pi}
use Rattle.xs_result_lines.specs.Bindings.{is_in_tag}
use Rattle.xs_result_lines.specs.Laws.{begins_in_tag}
use Rattle.xs_result_lines.specs.Lines.{OpenElement, bytes_of, lines, open_after, pyx}
use Rattle.xs_result_lines.specs.Settled.{settled}
use Rattle.xs_result_lines.specs.Keeping.{IsTaken, after}
use Rattle.xs_result_lines.proofs.LineLemmas.{elements_go_on, lines_go_on}
use Rattle.xs_result_lines.proofs.SettledLemmas.{closed_is}

-- ---- what stood before what was built stays there
flushed-after : (settled : List Event) (s : State) → flushed (after settled s) ≡ settled ++ flushed s
unfolding flushed
flushed-after settled s = append_assoc settled s.closed (s.tag ++ text_events s.text)

child-after : (settled : List Event) (s : State) (e : Event) (n : ℕ)
    → record { closed = flushed (after settled s) ++ e ∷ []; tag = []; text = []; depth = n }
    ≡ after settled (record { closed = flushed s ++ e ∷ []; tag = []; text = []; depth = n })
child-after settled s e n =
    ap (λ xs. record { closed = xs; tag = []; text = []; depth = n })
    (ap (λ xs. xs ++ e ∷ []) (flushed-after settled s) ∙ append_assoc settled (flushed s) (e ∷ []))

ended-after : (settled : List Event) (s : State) (n : ℕ) → ended n (after settled s) ≡ after settled (ended n s)
ended-after settled s zero = refl
ended-after settled s (suc n) = child-after settled s End n

tagged-after : (settled : List Event) (s : State) (tag : List Event) (t : Bool)
    → (if t then tagged tag (after settled s) else after settled s) ≡ after settled (if t then tagged tag s else s)
tagged-after settled s tag true = refl
tagged-after settled s tag false = refl

spoken-after : (settled : List Event) (s : State) (text : List ℕ) (t : Bool)
    → (if t then after settled s else spoken text (after settled s)) ≡ after settled (if t then s else spoken text s)
spoken-after settled s text true = refl
spoken-after settled s text false =
    ap (λ xs. record { closed = xs; tag = []; text = s.text ++ text; depth = s.depth }) (append_assoc settled s.closed s.tag)

taken-after : (settled : List Event) (s : State) (e : Event) → taken (after settled s) e ≡ after settled (taken s e)
unfolding taken
taken-after settled s (Start name) =
    ap (λ xs. record { closed = xs; tag = Start name ∷ []; text = []; depth = suc s.depth }) (flushed-after settled s)
taken-after settled s (Space prefix uri) = tagged-after settled s (s.tag ++ Space prefix uri ∷ []) (is_open s.tag)
taken-after settled s (Attr name value) = tagged-after settled s (with_attribute name value s.tag) (is_open s.tag)
taken-after settled s (Chars text) = spoken-after settled s text (is_empty text)
taken-after settled s End = ended-after settled s s.depth
taken-after settled s (Comment text) = child-after settled s (Comment text) s.depth
taken-after settled s (Pi target value) = child-after settled s (Pi target value) s.depth

after-forgotten : (settled : List Event) (s : State) → after settled s ≡ after (settled ++ s.closed) (forgotten s)
after-forgotten settled s = ap (λ xs. record { closed = xs; tag = s.tag; text = s.text; depth = s.depth }) (sym (append-nil (settled ++ s.closed)))

-- ---- a start tag is handed on whole
begins-joined : (xs ys : List Event) → begins_in_tag xs ≡ false → begins_in_tag ys ≡ false → begins_in_tag (xs ++ ys) ≡ false
begins-joined [] ys h k = k
begins-joined (x ∷ xs) ys h k = h

pub begins-text : (text : List ℕ) → begins_in_tag (text_events text) ≡ false
unfolding text_events
begins-text text = by_test (is_empty text)
  where
    by_test : (t : Bool) → begins_in_tag (if t then [] else Chars text ∷ []) ≡ false
    by_test true = refl
    by_test false = refl

-- nothing is kept that stays for good, and what is kept of a start tag begins with its start
record IsFresh (s : State) : Type 0 where
  forgotten : s.closed ≡ []
  begins : begins_in_tag s.tag ≡ false

begins-flushed : (s : State) → IsFresh s → begins_in_tag (flushed s) ≡ false
unfolding flushed
begins-flushed s h =
    begins-joined s.closed (s.tag ++ text_events s.text) (ap begins_in_tag h.forgotten) (begins-joined s.tag (text_events s.text) h.begins (begins-text s.text))

begins-child : (s : State) (e : Event) → IsFresh s → is_in_tag e ≡ false → begins_in_tag (flushed s ++ e ∷ []) ≡ false
begins-child s e h child = begins-joined (flushed s) (e ∷ []) (begins-flushed s h) child

begins-ended : (s : State) (n : ℕ) → IsFresh s → begins_in_tag (ended n s).closed ≡ false
begins-ended s zero h = ap begins_in_tag h.forgotten
begins-ended s (suc n) h = begins-child s End h refl

begins-settled : (s : State) (e : Event) → IsFresh s → begins_in_tag (taken s e).closed ≡ false
unfolding taken
begins-settled s (Start name) h = begins-flushed s h
begins-settled s (Space prefix uri) h = by_test (is_open s.tag)
  where
    by_test : (t : Bool) → begins_in_tag (if t then tagged (s.tag ++ Space prefix uri ∷ []) s else s).closed ≡ false
    by_test true = ap begins_in_tag h.forgotten
    by_test false = ap begins_in_tag h.forgotten
begins-settled s (Attr name value) h = by_test (is_open s.tag)
  where
    by_test : (t : Bool) → begins_in_tag (if t then tagged (with_attribute name value s.tag) s else s).closed ≡ false
    by_test true = ap begins_in_tag h.forgotten
    by_test false = ap begins_in_tag h.forgotten
begins-settled s (Chars text) h = by_test (is_empty text)
  where
    by_test : (t : Bool) → begins_in_tag (if t then s else spoken text s).closed ≡ false
    by_test true = ap begins_in_tag h.forgotten
    by_test false = begins-joined s.closed s.tag (ap begins_in_tag h.forgotten) h.begins
begins-settled s End h = begins-ended s s.depth h
begins-settled s (Comment text) h = begins-child s (Comment text) h refl
begins-settled s (Pi target value) h = begins-child s (Pi target value) h refl

revalued-in-tag : (value : List ℕ) (e : Event) → is_in_tag (revalued value e) ≡ is_in_tag e
revalued-in-tag value (Attr name old) = refl
revalued-in-tag value (Start name) = refl
revalued-in-tag value (Space prefix uri) = refl
revalued-in-tag value (Chars text) = refl
revalued-in-tag value End = refl
revalued-in-tag value (Comment text) = refl
revalued-in-tag value (Pi target old) = refl

begins-space : (tag : List Event) (e : Event) → begins_in_tag tag ≡ false → is_open tag ≡ true → begins_in_tag (tag ++ e ∷ []) ≡ false
begins-space [] e h open_tag = absurd (cc)
begins-space (x ∷ xs) e h open_tag = h

begins-attribute : (name : Label) (value : List ℕ) (tag : List Event) → begins_in_tag tag ≡ false → is_open tag ≡ true
    → begins_in_tag (with_attribute name value tag) ≡ false
unfolding with_attribute
begins-attribute name value [] h open_tag = absurd (cc)
begins-attribute name value (e ∷ es) h open_tag = by_test (is_attribute_of name.uri name.local e)
  where
    by_test : (t : Bool) → begins_in_tag (if t then revalued value e ∷ es else e ∷ with_attribute name value es) ≡ false
    by_test true = revalued-in-tag value e ∙ h
    by_test false = h

begins-tag-ended : (s : State) (n : ℕ) → IsFresh s → begins_in_tag (ended n s).tag ≡ false
begins-tag-ended s zero h = h.begins
begins-tag-ended s (suc n) h = refl

begins-tag : (s : State) (e : Event) → IsFresh s → begins_in_tag (taken s e).tag ≡ false
unfolding taken
begins-tag s (Start name) h = refl
begins-tag s (Space prefix uri) h = by_test (is_open s.tag) refl
  where
    by_test : (t : Bool) → is_open s.tag ≡ t → begins_in_tag (if t then tagged (s.tag ++ Space prefix uri ∷ []) s else s).tag ≡ false
    by_test true at = begins-space s.tag (Space prefix uri) h.begins at
    by_test false at = h.begins
begins-tag s (Attr name value) h = by_test (is_open s.tag) refl
  where
    by_test : (t : Bool) → is_open s.tag ≡ t → begins_in_tag (if t then tagged (with_attribute name value s.tag) s else s).tag ≡ false
    by_test true at = begins-attribute name value s.tag h.begins at
    by_test false at = h.begins
begins-tag s (Chars text) h = by_test (is_empty text)
  where
    by_test : (t : Bool) → begins_in_tag (if t then s else spoken text s).tag ≡ false
    by_test true = h.begins
    by_test false = refl
begins-tag s End h = begins-tag-ended s s.depth h
begins-tag s (Comment text) h = refl
begins-tag s (Pi target value) h = refl

-- ---- the bytes so far
pub bytes-append : (xs ys : List Line) → bytes_of (xs ++ ys) ≡ bytes_of xs ++ bytes_of ys
unfolding bytes_of
bytes-append xs ys = flat_map-append written xs ys

written-more : (old out new : List ℕ) (settled d : List Event) (around : List OpenElement) → begins_in_tag d ≡ false → out ≡ old ++ bytes_of (lines [] settled)
    → around ≡ open_after [] settled → new ≡ out ++ bytes_of (lines around d) → new ≡ old ++ bytes_of (lines [] (settled ++ d))
written-more old out new settled d around begins so_far opened more =
    more ∙ ap (λ xs. xs ++ bytes_of (lines around d)) so_far
    ∙ append_assoc old (bytes_of (lines [] settled)) (bytes_of (lines around d))
    ∙ ap (λ os. old ++ (bytes_of (lines [] settled) ++ bytes_of (lines os d))) opened
    ∙ ap (λ xs. old ++ xs) (sym (bytes-append (lines [] settled) (lines (open_after [] settled) d)))
    ∙ ap (λ ls. old ++ bytes_of ls) (sym (lines_go_on [] settled d begins))

-- ---- a stream at its start, with an event more, and at its end
none-settled : settled [] ≡ []
unfolding taken_all
none-settled = sym (closed_is [])

pub stream_start : (s : State) (around : List OpenElement) → s ≡ nothing → around ≡ [] → (old : List ℕ) → IsTaken s around old old []
unfolding taken_all lines open_after bytes_of
stream_start s around is none old = (
  sym (append-nil old) ∙ ap (λ xs. old ++ bytes_of (lines [] xs)) (sym none-settled),
  record {
    taken = ap (after []) (sym is) ∙ ap (λ xs. after xs s) (sym none-settled);
    forgotten = ap (λ x. x.closed) is;
    begins = ap (λ x. begins_in_tag x.tag) is;
    opened = none ∙ ap (open_after []) (sym none-settled);
  },
)

pub stream_step : (before behind end : State) (around inner : List OpenElement) (out new : List ℕ) (d : List Event) (e : Event) → behind ≡ taken before e
    → d ≡ behind.closed → end ≡ forgotten behind → new ≡ out ++ bytes_of (lines around d) → inner ≡ open_after around d
    → (old : List ℕ) (es : List Event) → IsTaken before around old out es → IsTaken end inner old new (es ++ e ∷ [])
stream_step before behind end around inner out new d e took handed ended_as put entered old es h =
    let k = h.1 in
    let fresh : IsFresh before = record { forgotten = k.forgotten; begins = k.begins } in
    let whole : begins_in_tag d ≡ false = ap begins_in_tag (handed ∙ ap (λ s. s.closed) took) ∙ begins-settled before e fresh in
    let none : end.closed ≡ [] = ap (λ s. s.closed) ended_as in
    let now : taken_all nothing (es ++ e ∷ []) ≡ after (settled es ++ d) end =
    taken_behind nothing es e ∙ ap (λ s. taken s e) k.taken ∙ taken-after (settled es) before e ∙ ap (after (settled es)) (sym took)
    ∙ after-forgotten (settled es) behind ∙ ap (λ xs. after (settled es ++ xs) (forgotten behind)) (sym handed)
    ∙ ap (after (settled es ++ d)) (sym ended_as) in
    let more : settled es ++ d ≡ settled (es ++ e ∷ []) =
    sym (append-nil (settled es ++ d)) ∙ ap (λ xs. (settled es ++ d) ++ xs) (sym none) ∙ ap (λ s. s.closed) (sym now) ∙ closed_is (es ++ e ∷ []) in (
      written-more old out new (settled es) d around whole h.0 k.opened put ∙ ap (λ xs. old ++ bytes_of (lines [] xs)) more,
      record {
        taken = now ∙ ap (λ xs. after xs end) more;
        forgotten = none;
        begins = ap (λ s. begins_in_tag s.tag) ended_as ∙ ap (λ s. begins_in_tag s.tag) took ∙ begins-tag before e fresh;
        opened =
            entered ∙ ap (λ os. open_after os d) k.opened ∙ sym (elements_go_on [] (settled es) d whole)
            ∙ ap (open_after []) more;
      },
    )

pub stream_end : (s : State) (around : List OpenElement) (out new : List ℕ) (rest : List Event) → rest ≡ flushed s → new ≡ out ++ bytes_of (lines around rest)
    → (old : List ℕ) (es : List Event) → IsTaken s around old out es → new ≡ old ++ pyx es
stream_end s around out new rest is put old es h =
    let k = h.1 in
    let fresh : IsFresh s = record { forgotten = k.forgotten; begins = k.begins } in
    let whole : begins_in_tag rest ≡ false = ap begins_in_tag is ∙ begins-flushed s fresh in
    let stays : settled es ++ rest ≡ built es =
    ap (λ xs. settled es ++ xs) is ∙ sym (flushed-after (settled es) s) ∙ ap flushed (sym k.taken) ∙ built_is es in
    written-more old out new (settled es) rest around whole h.0 k.opened put ∙ ap (λ xs. old ++ bytes_of (lines [] xs)) stays

-- ---- for calls one after another
pub kept-twice : (a b d : List ℕ) → take (length a) b ≡ a → take (length b) d ≡ b → take (length a) d ≡ a
kept-twice a b d e f =
    elim (leb_tells (length a) (length b)) [
      | inl h ↦ sym (take-take (length a) (length b) d h.1) ∙ ap (take (length a)) f ∙ e
      | inr h ↦
          let same : b ≡ a = (sym (take_all (length a) b (omega (arith, h.1))) ∙ e) in
          ap (λ n. take n d) (ap length (sym same)) ∙ f ∙ same
    ]

pub kept_whole : (a : List ℕ) → take (length a) a ≡ a
kept_whole a = take_all (length a) a (omega arith)

pub on_ok : {T E P Q : Type 0} (r : Result T E) → (P → Q) → OnOk r P → OnOk r Q
on_ok (Ok x) f h = f h
on_ok (Err e) f h = tt
