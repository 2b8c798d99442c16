-- What a stream took of segments, one after another.
use Rattle.std.proofs.Common.{◌≡◌, ◌∙◌, ℕ, List, [], ◌∷◌, ◌++◌, ap, append_assoc, sym, subst}
use Rattle.std.proofs.lemmas.List.{append-nil}
use Rattle.xs_record.specs.Segment.{joined}
use Rattle.xs_trace.specs.declared.event.Event.{Event}
use Rattle.xs_trace.specs.declared.item.Item.{Item}
use Rattle.xs_result_lines.specs.Stream.{HasTaken}
use Rattle.xs_result_lines.specs.declared.stream.PyxStream.{PyxStream}
use Rattle.xs_reply.specs.Items.{events_in}
use Rattle.xs_reply.proofs.ItemLemmas.{events_after}

-- ---- a segment with no event, and one with an event
pub none_taken : (s : PyxStream) (new : List ℕ) (own : List Event) → [] ≡ own
    → (old : List ℕ) (es : List Event) → HasTaken s old new es → HasTaken s old new (es ++ own)
none_taken s new own none old es h = subst (λ xs. HasTaken s old new xs) (sym (append-nil es) ∙ ap (λ xs. es ++ xs) none) h

pub one_taken : (before after : PyxStream) (out new : List ℕ) (e : Event) (own : List Event) → e ∷ [] ≡ own
    → ((old : List ℕ) (es : List Event) → HasTaken before old out es → HasTaken after old new (es ++ e ∷ []))
    → (old : List ℕ) (es : List Event) → HasTaken before old out es → HasTaken after old new (es ++ own)
one_taken before after out new e own is step old es h = subst (λ xs. HasTaken after old new (es ++ xs)) is (step old es h)

-- ---- before the first segment, with a segment more, and after the last
pub taken_first : (s : PyxStream) (out : List ℕ) → out ≡ [] → ((old : List ℕ) → HasTaken s old old []) → HasTaken s [] out []
taken_first s out none start = subst (λ xs. HasTaken s [] xs []) (sym none) (start [])

pub taken_more : (is : List Item) (left more : List (List Item)) (es all : List Event) → es ++ events_in (joined left) ≡ all → left ≡ is ∷ more
    → (es ++ events_in is) ++ events_in (joined more) ≡ all
taken_more is left more es all h e =
    append_assoc es (events_in is) (events_in (joined more)) ∙ ap (λ xs. es ++ xs) (sym (events_after is more))
    ∙ ap (λ ss. es ++ events_in (joined ss)) (sym e) ∙ h

pub taken_end : (left : List (List Item)) (es all : List Event) → es ++ events_in (joined left) ≡ all → left ≡ [] → es ≡ all
taken_end left es all h is = sym (append-nil es) ∙ ap (λ ss. es ++ events_in (joined ss)) (sym is) ∙ h
