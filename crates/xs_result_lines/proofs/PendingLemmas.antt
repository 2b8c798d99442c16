-- What is kept of a result until it stays for good.
use Rattle.std.proofs.Common.{◌≡◌, ℕ, zero, suc, ◌+◌, ◌-◌, ◌<◌, ◌≤◌, Bool, true, false, if◌then◌else◌, List, [], ◌∷◌, ◌++◌, Option, None, Some, drop, refl, reverse, sym, ◌∙◌, ap, subst, arith}
use Rattle.std.proofs.Common.{IfOk, get_or, Result, Ok, Err, append_assoc, length}
use Rattle.std.proofs.lemmas.Bool.Decides.{nat_tests}
use Rattle.std.specs.Prelude.{◌==◌, not}
use Rattle.std.proofs.lemmas.Bool.{and_parts, true≢false}
use Rattle.std.proofs.lemmas.List.{append-nil, drop_all, drop_more, map-append, reverse-append}
use Rattle.std.proofs.lemmas.List.Concat.{flat_map-append}
use denote.Ref.{Bor}
use Rattle.xs_pyx.specs.Writing.{written}
use Rattle.xs_pyx.specs.declared.line.Line.TheVariants as line
use Rattle.xs_result.specs.Built.{is_empty}
use Rattle.xs_result.specs.Building.{State, ended, flushed, forgotten, is_open, nothing, tagged, taken, taken_all, text_events}
use Rattle.xs_result.specs.Places.{is_attribute_of, with_attribute}
use Rattle.xs_result.proofs.BuiltLemmas.{taken_behind}
use Rattle.xs_text.specs.Escapes.{escaped, escaped_byte}
use Rattle.xs_trace.specs.Label.{Label}
use Rattle.xs_trace.specs.declared.event.Event.{Event}
use Rattle.xs_trace.specs.declared.event.Event.TheVariants.{Start, Space, Attr, Chars, End, Comment, Pi}
use Rattle.xs_result_lines.specs.Bindings.{Binding, is_in_tag, outermost, uri_in}
use Rattle.xs_result_lines.specs.Laws.{begins_in_tag}
use Rattle.xs_result_lines.specs.Lines.{OpenElement, bytes_of, element_name, entered, lines, open_after, scope_of, tag_lines}
use Rattle.xs_result_lines.specs.declared.writer.Frame.{Frame}
use Rattle.xs_result_lines.specs.steps.InForce.{is_in_force, is_plain_tag, plain_lines}
use Rattle.xs_result_lines.specs.steps.Open.{AreStillTheirs, in_force, opened}
use Rattle.xs_result_lines.specs.steps.Pending.{IsAlone, begun, clashes, is_clear, is_simple, added_to, joined, lent, text_lines}
use Rattle.xs_result_lines.proofs.LineLemmas.{elements_go_on, lines_go_on}
use Rattle.xs_result_lines.proofs.OpenLemmas.{scope_is}
use Rattle.xs_result_lines.proofs.PlainLemmas.{plain_entered, plain_lines-are}
use Rattle.xs_result_lines.proofs.StreamLemmas.{begins-text, bytes-append}

-- ---- what was begun
pub begun_none : (es : List (Bor Event)) → es ≡ [] → begun es ≡ nothing
unfolding taken_all
begun_none es h = ap begun h

pub begun_more : (es all : List (Bor Event)) (e : Bor Event) → all ≡ es ++ e ∷ [] → begun all ≡ taken (begun es) e.now
begun_more es all e h =
    ap begun h ∙ ap (taken_all nothing) (map-append (λ x. x.now) es (e ∷ [])) ∙ taken_behind nothing (lent es) e.now

pub alone_none : (s : State) → s ≡ nothing → IsAlone s
alone_none s h = subst IsAlone (sym h) (record { closed = refl; text = refl })

pub flushed_tag : (s : State) → IsAlone s → flushed s ≡ s.tag
unfolding flushed text_events
flushed_tag s h =
    ap (λ xs. xs ++ (s.tag ++ text_events s.text)) h.closed ∙ ap (λ t. s.tag ++ text_events t) h.text ∙ append-nil s.tag

pub started : (s : State) (e : Event) (name : Label) → IsAlone s → s.tag ≡ [] → e ≡ Start name
    → taken s e ≡ record { closed = []; tag = Start name ∷ []; text = []; depth = suc s.depth }
unfolding taken
started s e name h none is =
    ap (taken s) is ∙ ap (λ xs. record { closed = xs; tag = Start name ∷ []; text = []; depth = suc s.depth }) (flushed_tag s h ∙ none)

pub started_alone : (s : State) (e : Event) (name : Label) → IsAlone s → s.tag ≡ [] → e ≡ Start name → IsAlone (taken s e)
started_alone s e name h none is = subst IsAlone (sym (started s e name h none is)) (record { closed = refl; text = refl })

-- an event of a start tag changes nothing else, and what it makes of the tag is known by the tag alone
abbrev tagged_as : List Event → List ℕ → ℕ → List Event → State
tagged_as closed text depth tag = record { closed = closed; tag = tag; text = text; depth = depth }

space-one : (closed tag : List Event) (text : List ℕ) (depth : ℕ) (t : State) (e : Event) (b : Bool) → t.tag ≡ tag
    → (if b then tagged_as closed text depth (tag ++ e ∷ []) else tagged_as closed text depth tag)
    ≡ tagged_as closed text depth (if b then tagged (t.tag ++ e ∷ []) t else t).tag
space-one closed tag text depth t e true same = ap (λ xs. tagged_as closed text depth (xs ++ e ∷ [])) (sym same)
space-one closed tag text depth t e false same = ap (tagged_as closed text depth) (sym same)

attribute-one : (closed tag : List Event) (text : List ℕ) (depth : ℕ) (t : State) (name : Label) (value : List ℕ) (b : Bool) → t.tag ≡ tag
    → (if b then tagged_as closed text depth (with_attribute name value tag) else tagged_as closed text depth tag)
    ≡ tagged_as closed text depth (if b then tagged (with_attribute name value t.tag) t else t).tag
attribute-one closed tag text depth t name value true same = ap (λ xs. tagged_as closed text depth (with_attribute name value xs)) (sym same)
attribute-one closed tag text depth t name value false same = ap (tagged_as closed text depth) (sym same)

inside_one : (closed tag : List Event) (text : List ℕ) (depth : ℕ) (t : State) (e : Event) → is_in_tag e ≡ true → t.tag ≡ tag
    → taken (tagged_as closed text depth tag) e ≡ tagged_as closed text depth (taken t e).tag
unfolding taken
inside_one closed tag text depth t (Space prefix uri) inside same =
    space-one closed tag text depth t (Space prefix uri) (is_open tag) same
    ∙ ap (λ xs. tagged_as closed text depth (if is_open xs then tagged (t.tag ++ Space prefix uri ∷ []) t else t).tag) (sym same)
inside_one closed tag text depth t (Attr name value) inside same =
    attribute-one closed tag text depth t name value (is_open tag) same
    ∙ ap (λ xs. tagged_as closed text depth (if is_open xs then tagged (with_attribute name value t.tag) t else t).tag) (sym same)
inside_one closed tag text depth t (Start name) inside same = absurd (cc)
inside_one closed tag text depth t (Chars more) inside same = absurd (cc)
inside_one closed tag text depth t End inside same = absurd (cc)
inside_one closed tag text depth t (Comment more) inside same = absurd (cc)
inside_one closed tag text depth t (Pi target value) inside same = absurd (cc)

pub inside_is : (s t : State) (e : Event) → is_in_tag e ≡ true → t.tag ≡ s.tag
    → taken s e ≡ record { closed = s.closed; tag = (taken t e).tag; text = s.text; depth = s.depth }
inside_is s t e inside same = inside_one s.closed s.tag s.text s.depth t e inside same

pub alone_more : (s : State) (e : Event) → is_in_tag e ≡ true → IsAlone s → IsAlone (taken s e)
alone_more s e inside h =
    let is = inside_is s s e inside refl in
    record { closed = ap (λ x. x.closed) is ∙ h.closed; text = ap (λ x. x.text) is ∙ h.text }

-- an event of a start tag, as the tag alone shows it
pub added_here : (s : State) (tag : List Event) (e : Event) → is_in_tag e ≡ true → s.tag ≡ tag → (taken s e).tag ≡ added_to tag e
added_here s tag e inside same = sym (ap (λ x. x.tag) (inside_one [] tag [] 0 s e inside same))

pub added_is : (s : State) (tag : List Event) (e : Event) → is_in_tag e ≡ true → tag ≡ added_to s.tag e → s.closed ≡ []
    → record { closed = []; tag = tag; text = s.text; depth = s.depth } ≡ forgotten (taken s e)
added_is s tag e inside same none =
    let t : State = record { closed = []; tag = s.tag; text = []; depth = 0 } in
    let is = inside_is s t e inside refl in
    ap (λ x. record { closed = []; tag = x; text = s.text; depth = s.depth }) same ∙ ap forgotten (sym is)

pub none_closed : (s : State) (e : Event) → is_in_tag e ≡ true → s.closed ≡ [] → (taken s e).closed ≡ []
none_closed s e inside none = ap (λ x. x.closed) (inside_is s s e inside refl) ∙ none

pub inside_nothing : (s : State) (e : Event) → is_in_tag e ≡ true → s.tag ≡ [] → taken s e ≡ s
unfolding taken
inside_nothing s (Space prefix uri) inside none =
    ap (λ xs. if is_open xs then tagged (s.tag ++ Space prefix uri ∷ []) s else s) none
inside_nothing s (Attr name value) inside none =
    ap (λ xs. if is_open xs then tagged (with_attribute name value s.tag) s else s) none
inside_nothing s (Start name) inside none = absurd (cc)
inside_nothing s (Chars more) inside none = absurd (cc)
inside_nothing s End inside none = absurd (cc)
inside_nothing s (Comment more) inside none = absurd (cc)
inside_nothing s (Pi target value) inside none = absurd (cc)

pub added_none : (tag : List Event) (e : Event) → is_in_tag e ≡ true → tag ≡ [] → tag ≡ added_to tag e
added_none tag e inside none = sym (ap (λ x. x.tag) (inside_nothing (tagged_as [] [] 0 tag) e inside none))

-- a vector of no length
pub no_items : {X : Type 0} (xs : List X) (n : ℕ) → n ≡ length xs → (n == 0) ≡ true → xs ≡ []
no_items [] n is h = refl
no_items (x ∷ xs) n is h =
    let q : (length (x ∷ xs) == 0) ≡ false = grind (arith, nat_tests) in absurd (true≢false (sym h ∙ ap (λ k. k == 0) is ∙ q))

pub no_events : (es : List (Bor Event)) (n : ℕ) (tag : List Event) → n ≡ length es → (n == 0) ≡ true → (begun es).tag ≡ tag → tag ≡ []
no_events es n tag is h view = sym view ∙ ap (λ s. s.tag) (begun_none es (no_items es n is h))

-- an end, where an element is open
pub ended_none : (n : ℕ) (s : State) → n ≡ 0 → ended n s ≡ s
ended_none n s h = ap (λ k. ended k s) h

pub ended_some : (n : ℕ) (s : State) → 0 < n → ended n s ≡ record { closed = flushed s ++ End ∷ []; tag = []; text = []; depth = n - 1 }
ended_some zero s h = absurd (omega arith)
ended_some (suc n) s h =
    let e : n ≡ suc n - 1 = omega arith in ap (λ k. record { closed = flushed s ++ End ∷ []; tag = []; text = []; depth = k }) e

-- ---- lines one after another
pub two_written : (w v : List OpenElement) (a b : List Event) (old mid new : List ℕ) → begins_in_tag b ≡ false → mid ≡ old ++ bytes_of (lines w a)
    → v ≡ open_after w a → new ≡ mid ++ bytes_of (lines v b) → new ≡ old ++ bytes_of (lines w (a ++ b))
two_written w v a b old mid new begins first inner second =
    second ∙ ap (λ xs. xs ++ bytes_of (lines v b)) first ∙ append_assoc old (bytes_of (lines w a)) (bytes_of (lines v b))
    ∙ ap (λ os. old ++ (bytes_of (lines w a) ++ bytes_of (lines os b))) inner
    ∙ ap (λ xs. old ++ xs) (sym (bytes-append (lines w a) (lines (open_after w a) b)))
    ∙ ap (λ ls. old ++ bytes_of ls) (sym (lines_go_on w a b begins))

pub two_opened : (w v u : List OpenElement) (a b : List Event) → begins_in_tag b ≡ false → v ≡ open_after w a → u ≡ open_after v b
    → u ≡ open_after w (a ++ b)
two_opened w v u a b begins inner last = last ∙ ap (λ os. open_after os b) inner ∙ sym (elements_go_on w a b begins)

text_is : (w : List OpenElement) (text : List ℕ) → lines w (text_events text) ≡ text_lines text
unfolding lines text_events
text_is w [] = refl
text_is w (b ∷ bs) = refl

text_opens : (w : List OpenElement) (text : List ℕ) → open_after w (text_events text) ≡ w
unfolding open_after text_events
text_opens w [] = refl
text_opens w (b ∷ bs) = refl

flushed_parts : (s : State) → s.closed ≡ [] → flushed s ≡ s.tag ++ text_events s.text
unfolding flushed
flushed_parts s none = ap (λ xs. xs ++ (s.tag ++ text_events s.text)) none

pub flushed_written : (w v : List OpenElement) (s : State) (text : List ℕ) (old mid new : List ℕ) → s.closed ≡ [] → text ≡ s.text
    → mid ≡ old ++ bytes_of (lines w s.tag) → v ≡ open_after w s.tag → new ≡ mid ++ bytes_of (text_lines text)
    → new ≡ old ++ bytes_of (lines w (flushed s))
flushed_written w v s text old mid new none same first inner second =
    two_written w v s.tag (text_events s.text) old mid new (begins-text s.text) first inner
    (second ∙ ap (λ t. mid ++ bytes_of (text_lines t)) same ∙ ap (λ ls. mid ++ bytes_of ls) (sym (text_is v s.text)))
    ∙ ap (λ es. old ++ bytes_of (lines w es)) (sym (flushed_parts s none))

pub flushed_opened : (w v : List OpenElement) (s : State) → s.closed ≡ [] → v ≡ open_after w s.tag → v ≡ open_after w (flushed s)
flushed_opened w v s none inner =
    two_opened w v v s.tag (text_events s.text) (begins-text s.text) inner (sym (text_opens v s.text))
    ∙ ap (open_after w) (sym (flushed_parts s none))

pub nothing_written : (w : List OpenElement) (es : List Event) (old : List ℕ) → es ≡ [] → old ≡ old ++ bytes_of (lines w es)
unfolding lines bytes_of
nothing_written w es old none = sym (append-nil old) ∙ ap (λ xs. old ++ bytes_of (lines w xs)) (sym none)

pub no_text : (text old : List ℕ) → text ≡ [] → old ≡ old ++ bytes_of (text_lines text)
unfolding bytes_of
no_text text old none = sym (append-nil old) ∙ ap (λ t. old ++ bytes_of (text_lines t)) (sym none)

pub nothing_opened : (w : List OpenElement) (es : List Event) → es ≡ [] → w ≡ open_after w es
unfolding open_after
nothing_opened w es none = ap (open_after w) (sym none)

-- ---- a start tag by other events
pub tag_written : (w : List OpenElement) (a b : List Event) (old new : List ℕ) → a ≡ b → new ≡ old ++ bytes_of (lines w a) → new ≡ old ++ bytes_of (lines w b)
tag_written w a b old new is h = h ∙ ap (λ es. old ++ bytes_of (lines w es)) is

pub tag_opened : (w v : List OpenElement) (a b : List Event) → a ≡ b → v ≡ open_after w a → v ≡ open_after w b
tag_opened w v a b is h = h ∙ ap (open_after w) is

-- ---- events of a start tag of which all stay
pub inside-lines : (w : List OpenElement) (es : List Event) → is_simple es ≡ true → lines w es ≡ []
unfolding lines is_simple
inside-lines w [] h = refl
inside-lines w (Space prefix uri ∷ es) h =
    inside-lines w es (and_parts (is_clear (Space prefix uri) es) (is_simple es) h).1
inside-lines w (Attr name value ∷ es) h =
    inside-lines w es (and_parts (is_clear (Attr name value) es) (is_simple es) h).1
inside-lines w (Start name ∷ es) h = absurd (cc)
inside-lines w (Chars text ∷ es) h = absurd (cc)
inside-lines w (End ∷ es) h = absurd (cc)
inside-lines w (Comment text ∷ es) h = absurd (cc)
inside-lines w (Pi target value ∷ es) h = absurd (cc)

pub inside-opens : (w : List OpenElement) (es : List Event) → is_simple es ≡ true → open_after w es ≡ w
unfolding open_after is_simple
inside-opens w [] h = refl
inside-opens w (Space prefix uri ∷ es) h =
    inside-opens w es (and_parts (is_clear (Space prefix uri) es) (is_simple es) h).1
inside-opens w (Attr name value ∷ es) h =
    inside-opens w es (and_parts (is_clear (Attr name value) es) (is_simple es) h).1
inside-opens w (Start name ∷ es) h = absurd (cc)
inside-opens w (Chars text ∷ es) h = absurd (cc)
inside-opens w (End ∷ es) h = absurd (cc)
inside-opens w (Comment text ∷ es) h = absurd (cc)
inside-opens w (Pi target value ∷ es) h = absurd (cc)

pub plain_tag_written : (w : List OpenElement) (name : Label) (es : List Event) (old new : List ℕ) → is_plain_tag (scope_of w) name es ≡ true
    → is_simple es ≡ true → new ≡ old ++ bytes_of (plain_lines name es) → new ≡ old ++ bytes_of (lines w (Start name ∷ es))
unfolding lines
plain_tag_written w name es old new plain simple is =
    is ∙ ap (λ ls. old ++ bytes_of ls) (plain_lines-are w name es plain ∙ sym (append-nil (tag_lines w name es))
    ∙ ap (λ ls. tag_lines w name es ++ ls) (sym (inside-lines (entered w name es) es simple)))

pub plain_tag_opened : (w v : List OpenElement) (name : Label) (es : List Event) → is_plain_tag (scope_of w) name es ≡ true
    → is_simple es ≡ true → v ≡ record { name = element_name name; scope = scope_of w } ∷ w → v ≡ open_after w (Start name ∷ es)
unfolding open_after
plain_tag_opened w v name es plain simple is =
    is ∙ sym (plain_entered w name es plain) ∙ sym (inside-opens (entered w name es) es simple)

-- no attribute among these has the name of one that was there before
abbrev AreClear : List Event → List Event → Type 0
AreClear [] es = Unit {0}
AreClear (b ∷ bs) es = (is_clear b es ≡ true) × AreClear bs es

not_true : (t : Bool) → not t ≡ true → t ≡ false
not_true true h = absurd (cc)
not_true false h = refl

attribute-behind : (name : Label) (value : List ℕ) (before es : List Event) → AreClear before (Attr name value ∷ es)
    → with_attribute name value before ≡ before ++ Attr name value ∷ []
unfolding with_attribute is_clear
attribute-behind name value [] es h = refl
attribute-behind name value (b ∷ bs) es h =
    let parts = and_parts (not (is_attribute_of name.uri name.local b)) (is_clear b es) h.0 in
    rw (not_true (is_attribute_of name.uri name.local b) parts.0) (ap (λ xs. b ∷ xs) (attribute-behind name value bs es h.1))

clear-rest : (before : List Event) (e : Event) (es : List Event) → AreClear before (e ∷ es) → AreClear before es
unfolding is_clear
clear-rest [] e es h = tt
clear-rest (b ∷ bs) e es h = ((and_parts (not (clashes b e)) (is_clear b es) h.0).1, clear-rest bs e es h.1)

clear-more : (before : List Event) (e : Event) (es : List Event) → AreClear before es → is_clear e es ≡ true → AreClear (before ++ e ∷ []) es
clear-more [] e es h one = (one, tt)
clear-more (b ∷ bs) e es h one = (h.0, clear-more bs e es h.1 one)

-- what is no attribute clashes with nothing
pub unnamed_clear : (e : Event) (es : List Event) → ((name : Label) → is_attribute_of name.uri name.local e ≡ false) → is_clear e es ≡ true
unfolding is_clear
unnamed_clear e [] none = refl
unnamed_clear e (Attr name value ∷ es) none = rw (none name) (unnamed_clear e es none)
unnamed_clear e (Start name ∷ es) none = unnamed_clear e es none
unnamed_clear e (Space prefix uri ∷ es) none = unnamed_clear e es none
unnamed_clear e (Chars text ∷ es) none = unnamed_clear e es none
unnamed_clear e (End ∷ es) none = unnamed_clear e es none
unnamed_clear e (Comment text ∷ es) none = unnamed_clear e es none
unnamed_clear e (Pi target value ∷ es) none = unnamed_clear e es none

-- one after another at the end
open_behind : (first : Event) (before more : List Event) → is_open ((first ∷ before) ++ more) ≡ true
open_behind first before more = refl

simple_taken : (es : List Event) (first : Event) (before : List Event) (s : State) → s.tag ≡ first ∷ before → AreClear (first ∷ before) es → is_simple es ≡ true
    → (taken_all s es).tag ≡ (first ∷ before) ++ es
unfolding taken_all taken is_simple
simple_taken [] first before s is clear simple = is ∙ sym (append-nil (first ∷ before))
simple_taken (Space prefix uri ∷ es) first before s is clear simple =
    let parts = and_parts (is_clear (Space prefix uri) es) (is_simple es) simple in
    let next : (taken s (Space prefix uri)).tag ≡ first ∷ (before ++ Space prefix uri ∷ []) =
    ap (λ xs. (if is_open xs then tagged (xs ++ Space prefix uri ∷ []) s else s).tag) is in
    simple_taken es first (before ++ Space prefix uri ∷ []) (taken s (Space prefix uri)) next
    (clear-more (first ∷ before) (Space prefix uri) es (clear-rest (first ∷ before) (Space prefix uri) es clear) parts.0) parts.1
    ∙ append_assoc (first ∷ before) (Space prefix uri ∷ []) es
simple_taken (Attr name value ∷ es) first before s is clear simple =
    let parts = and_parts (is_clear (Attr name value) es) (is_simple es) simple in
    let next : (taken s (Attr name value)).tag ≡ first ∷ (before ++ Attr name value ∷ []) =
    ap (λ xs. (if is_open xs then tagged (with_attribute name value xs) s else s).tag) is
    ∙ attribute-behind name value (first ∷ before) es clear in
    simple_taken es first (before ++ Attr name value ∷ []) (taken s (Attr name value)) next
    (clear-more (first ∷ before) (Attr name value) es (clear-rest (first ∷ before) (Attr name value) es clear) parts.0) parts.1
    ∙ append_assoc (first ∷ before) (Attr name value ∷ []) es
simple_taken (Start name ∷ es) first before s is clear simple = absurd (cc)
simple_taken (Chars text ∷ es) first before s is clear simple = absurd (cc)
simple_taken (End ∷ es) first before s is clear simple = absurd (cc)
simple_taken (Comment text ∷ es) first before s is clear simple = absurd (cc)
simple_taken (Pi target value ∷ es) first before s is clear simple = absurd (cc)

pub simple_begun : (tag : List (Bor Event)) (name : Label) (es : List Event) → lent tag ≡ Start name ∷ es → is_simple es ≡ true
    → (begun tag).tag ≡ Start name ∷ es
unfolding taken_all
simple_begun tag name es is simple =
    ap (λ xs. (taken_all nothing xs).tag) is
    ∙ simple_taken es (Start name) [] (taken nothing (Start name))
    (ap (λ x. x.tag) (started nothing (Start name) name (record { closed = refl; text = refl }) refl refl))
    (unnamed_clear (Start name) es (λ other. refl), tt) simple

-- ---- an element that declares nothing
turned : (items now : List Frame) (f : Frame) → now ≡ items ++ f ∷ [] → reverse now ≡ f ∷ reverse items
turned items now f is = ap reverse is ∙ reverse-append items (f ∷ [])

still-scope : (fs : List Frame) (known : Option (List Binding)) → AreStillTheirs fs known
    → scope_of (opened fs (in_force known)) ≡ in_force known ++ outermost
still-scope [] None theirs = refl
still-scope (g ∷ gs) None theirs = refl
still-scope fs (Some ds) theirs = scope_is (opened fs ds) fs ds refl theirs

plain-one : (fs : List Frame) (f : Frame) (known : Option (List Binding)) (around : List OpenElement) → f.declared ≡ 0 → AreStillTheirs fs known
    → opened fs (in_force known) ≡ around → opened (f ∷ fs) (in_force known) ≡ record { name = f.name; scope = scope_of around } ∷ around
plain-one fs f known around none theirs view =
    ap (λ n. record { name = f.name; scope = in_force known ++ outermost } ∷ opened fs (drop n (in_force known))) none
    ∙ ap (λ s. record { name = f.name; scope = s } ∷ opened fs (in_force known)) (sym (still-scope fs known theirs))
    ∙ ap (λ os. record { name = f.name; scope = scope_of os } ∷ os) view

pub plain_view : (items now : List Frame) (f : Frame) (known : Option (List Binding)) (around : List OpenElement) → now ≡ items ++ f ∷ []
    → f.declared ≡ 0 → AreStillTheirs (reverse items) known → opened (reverse items) (in_force known) ≡ around
    → opened (reverse now) (in_force known) ≡ record { name = f.name; scope = scope_of around } ∷ around
plain_view items now f known around is none theirs view =
    ap (λ fs. opened fs (in_force known)) (turned items now f is) ∙ plain-one (reverse items) f known around none theirs view

-- the end of such an element
pub plain_end : (items now : List Frame) (f : Frame) (known : Option (List Binding)) (around : List OpenElement) (old new : List ℕ) (es : List Event)
    → items ≡ now ++ f ∷ [] → f.declared ≡ 0 → opened (reverse items) (in_force known) ≡ around → new ≡ old ++ written (line.End f.name)
    → new ++ bytes_of (lines (opened (reverse now) (in_force known)) es) ≡ old ++ bytes_of (lines around (End ∷ es))
unfolding lines bytes_of
plain_end items now f known around old new es popped none view is =
    ap (λ x. x ++ bytes_of (lines (opened (reverse now) (in_force known)) es)) is
    ∙ append_assoc old (written (line.End f.name)) (bytes_of (lines (opened (reverse now) (in_force known)) es))
    ∙ ap (λ n. old ++ (written (line.End f.name) ++ bytes_of (lines (opened (reverse now) (drop n (in_force known))) es))) (sym none)
    ∙ ap (λ fs. old ++ bytes_of (lines (opened fs (in_force known)) (End ∷ es))) (sym (turned now items f popped))
    ∙ ap (λ os. old ++ bytes_of (lines os (End ∷ es))) view

-- ---- a text in pieces
pub empty_first : (t x : List ℕ) → (length t == 0) ≡ true → is_empty (t ++ x) ≡ is_empty x
empty_first [] x h = refl
empty_first (b ∷ bs) x h =
    let q : (length (b ∷ bs) == 0) ≡ false = grind (arith, nat_tests) in absurd (true≢false (sym h ∙ q))

pub full_first : (t x : List ℕ) → (length t == 0) ≡ false → is_empty (t ++ x) ≡ false
full_first [] x h = absurd (let no : true ≡ false = h in cc)
full_first (b ∷ bs) x h = refl

pub piece_written : (out new t x : List ℕ) → new ≡ out ++ escaped t → new ++ escaped x ≡ out ++ escaped (t ++ x)
unfolding escaped
piece_written out new t x is =
    ap (λ xs. xs ++ escaped x) is ∙ append_assoc out (escaped t) (escaped x) ∙ ap (λ xs. out ++ xs) (sym (flat_map-append escaped_byte t x))

pub pieces_end : (out whole : List ℕ) (texts : List (Bor (List ℕ))) (i : ℕ) → length texts ≤ i → out ++ escaped (joined (drop i texts)) ≡ whole → out ≡ whole
unfolding escaped
pieces_end out whole texts i past is =
    sym (append-nil out) ∙ ap (λ ts. out ++ escaped (joined ts)) (sym (drop_all i texts past)) ∙ is

-- ---- what is left of a list
pub next : {X : Type 0} (xs : List X) (i : ℕ) (x : X) → i < length xs → x ≡ get_or xs i x → drop i xs ≡ x ∷ drop (i + 1) xs
next xs i x h e = drop_more xs i x h ∙ ap (λ y. y ∷ drop (i + 1) xs) (sym e)

-- ---- a name without a prefix, where nothing is declared
bare-empty : (uri : List ℕ) → (length uri == 0) ≡ is_in_force outermost [] uri
unfolding uri_in
bare-empty [] = refl
bare-empty (b ∷ bs) = let q : (length (b ∷ bs) == 0) ≡ false = grind (arith, nat_tests) in q

pub bare_in_force : (around : List Binding) (prefix uri : List ℕ) (b : Bool) → around ≡ [] → prefix ≡ [] → b ≡ (length uri == 0)
    → b ≡ is_in_force (around ++ outermost) prefix uri
bare_in_force around prefix uri b none empty is =
    is ∙ bare-empty uri ∙ ap (λ bs. is_in_force (bs ++ outermost) [] uri) (sym none) ∙ ap (λ p. is_in_force (around ++ outermost) p uri) (sym empty)

-- ---- a test of which only one answer matters
pub if_plain : {E : Type 0} (r : Result Bool E) (b : Bool) → IfOk r (λ holds. holds ≡ b) → IfOk r (λ holds. holds ≡ true → b ≡ true)
if_plain (Ok x) b h = λ t. sym h ∙ t
if_plain (Err e) b h = tt
