-- What was recorded of a run is the cut of its trace.
use Rattle.std.proofs.Common.{◌≡◌, ℕ, zero, suc, ◌-◌, List, [], ◌∷◌, Option, Some, None, Ok, Err, Bool, true, false, cond, refl, sym, ap}
use Rattle.std.proofs.Common.{subst, ◌∙◌}
use Rattle.xs_trace.specs.Mark.{Tick, Put, Say, Stop, Need, Hole, Trace, ◌⨾◌, NeedsNothing, ticks, events_of, messages_of, untimed, without_puts, captured}
use Rattle.xs_trace.specs.State.{State, Log, Nothing, All, Untimed, alone, allows, said, shown, passed, IsAbove}
use Rattle.xs_trace.specs.Cut.{End, Whole, Fault, Needs, Spent, Full, cut, nowhere}
use Rattle.xs_trace.specs.Play.{Step, Goes, Ends, Reported, stops, and_then, ticked, put, put_in, play, reported_of, left_of, end_of}
use Rattle.xs_trace.specs.PlayLaws.{ReportsCut, begun}
use Rattle.xs_trace.specs.Keeping.{IsCutAt, ReportedIsCut, NeedComesFromNeed}
use Rattle.xs_trace.specs.declared.event.Event.{Event}
use Rattle.xs_trace.specs.declared.item.Site.{Site}
use Rattle.xs_trace.specs.declared.recorder.Halt.TheVariants as halt
use Rattle.xs_trace.proofs.PlayLemmas.{play-cut}
use Rattle.xs_trace.proofs.GrowthLemmas.{play-grows}

or_that : {A : Type 0} → A → Option A → A
or_that a None = a
or_that a (Some x) = x

pub some_same : {A : Type 0} {a b : A} → Some a ≡ Some b → a ≡ b
unfolding or_that
some_same {a = a} p = ap (or_that a) p

-- steps that end in no need
abbrev WantsNone : {H A : Type 0} → Step H A → Type 0
WantsNone (Goes x s) = Unit {0}
WantsNone (Ends Whole t l h) = Unit {0}
WantsNone (Ends (Fault f p) t l h) = Unit {0}
WantsNone (Ends (Needs g p) t l h) = ⊥
WantsNone (Ends (Spent p) t l h) = Unit {0}
WantsNone (Ends (Full p) t l h) = Unit {0}

wants-then : {H : Type 0} (g : Reported H) (f : State H → Reported H) → WantsNone g → ((m : State H) → WantsNone (f m)) → WantsNone (and_then g (λ u m. f m))
wants-then (Goes x m) f h k = k m
wants-then (Ends Whole t l o) f h k = tt
wants-then (Ends (Fault n p) t l o) f h k = tt
wants-then (Ends (Needs g p) t l o) f h k = h
wants-then (Ends (Spent p) t l o) f h k = tt
wants-then (Ends (Full p) t l o) f h k = tt

wants-if : {H : Type 0} (b : Bool) (x y : Reported H) → WantsNone x → WantsNone y → WantsNone (cond b x y)
wants-if true x y h k = h
wants-if false x y h k = k

put-wants : {H : Type 0} (cs : List (List Event)) (e : Event) (s : State H) → WantsNone (put_in cs e s)
put-wants [] e s = wants-if (allows s.room 1) _ _ tt tt
put-wants (c ∷ cs) e s = tt

-- what a run reported, and how it ended, is a cut
cut-at : {H : Type 0} (l : Log H) (x : Trace H) (b : ℕ) (m : Option ℕ) (e : End) (s : State H) → play x (begun l b m) ≡ stops e s →
    IsCutAt l e b (cut x b m) s
cut-at l x b m e s q =
    let h : ReportsCut l b (cut x b m) (play x (begun l b m)) = play-cut x l nowhere b m alone in
    record { reported = sym (ap reported_of q) ∙ h.reported; end = sym h.end ∙ ap end_of q; left = sym (ap left_of q) ∙ h.left }

cut-whole : {H : Type 0} (l : Log H) (x : Trace H) (b : ℕ) (m : Option ℕ) (s : State H) → play x (begun l b m) ≡ Goes tt s →
    IsCutAt l Whole b (cut x b m) s
cut-whole l x b m s q =
    let h : ReportsCut l b (cut x b m) (play x (begun l b m)) = play-cut x l nowhere b m alone in
    record { reported = sym (ap reported_of q) ∙ h.reported; end = sym h.end ∙ ap end_of q; left = sym (ap left_of q) ∙ h.left }

pub reported-is-cut : (H : Type 0) → ReportedIsCut H
reported-is-cut H l x b m (Ok u) s q = cut-whole l x b m s q
reported-is-cut H l x b m (Err (halt.Fault f p)) s q = cut-at l x b m (Fault f p) s q
reported-is-cut H l x b m (Err (halt.Needs g p)) s q = cut-at l x b m (Needs g p) s q
reported-is-cut H l x b m (Err (halt.Spent p)) s q = cut-at l x b m (Spent p) s q
reported-is-cut H l x b m (Err (halt.Full p)) s q = cut-at l x b m (Full p) s q
reported-is-cut H l x b m (Err (halt.Over n)) s q = subst (λ h. IsAbove h.most n) (q.shared ∙ ap (passed n s.left) (play-grows x (begun l b m)).shared) q.above
reported-is-cut H l x b m (Err halt.NoMemory) s q = tt

-- what a log keeps
marks_in : {H : Type 0} → Log H → Trace H
marks_in Nothing = []
marks_in (All t) = t
marks_in (Untimed t) = t

pub all_same : {H : Type 0} {a b : Trace H} → All a ≡ All b → a ≡ b
unfolding marks_in
all_same p = ap marks_in p

pub untimed_same : {H : Type 0} {a b : Trace H} → Untimed a ≡ Untimed b → a ≡ b
unfolding marks_in
untimed_same p = ap marks_in p

-- what marks give without ticks
pub untimed-events : {H : Type 0} (x : Trace H) → events_of (untimed x) ≡ events_of x
untimed-events [] = refl
untimed-events (Tick p ∷ x) = untimed-events x
untimed-events (Put e ∷ x) = ap (λ es. e ∷ es) (untimed-events x)
untimed-events (Say t ∷ x) = untimed-events x
untimed-events (Stop f p ∷ x) = untimed-events x
untimed-events (Need g p ∷ x) = untimed-events x
untimed-events (Hole k ∷ x) = untimed-events x

pub untimed-messages : {H : Type 0} (x : Trace H) → messages_of (untimed x) ≡ messages_of x
untimed-messages [] = refl
untimed-messages (Tick p ∷ x) = untimed-messages x
untimed-messages (Put e ∷ x) = untimed-messages x
untimed-messages (Say t ∷ x) = ap (λ ms. t ∷ ms) (untimed-messages x)
untimed-messages (Stop f p ∷ x) = untimed-messages x
untimed-messages (Need g p ∷ x) = untimed-messages x
untimed-messages (Hole k ∷ x) = untimed-messages x

-- a trace without a need
no-need : {H : Type 0} (x : Trace H) (s : State H) → NeedsNothing x → WantsNone (play x s)
no-need [] s h = tt
no-need (Tick p ∷ x) s h = wants-then (ticked p s) (λ m. play x m) (wants-if (allows s.left 1) _ _ tt tt) (λ m. no-need x m h)
no-need (Put e ∷ x) s h = wants-then (put e s) (λ m. play x m) (put-wants s.captures e s) (λ m. no-need x m h)
no-need (Say t ∷ x) s h = no-need x (said t s) h
no-need (Stop f p ∷ x) s h = tt
no-need (Need g p ∷ x) s h = absurd h
no-need (Hole k ∷ x) s h = no-need x (shown (Hole k) s) h

pub need-comes-from-need : (H : Type 0) → NeedComesFromNeed H
need-comes-from-need H x s m (Ok u) h q = tt
need-comes-from-need H x s m (Err (halt.Fault f p)) h q = tt
need-comes-from-need H x s m (Err (halt.Needs g p)) h q = subst WantsNone q (no-need x s h)
need-comes-from-need H x s m (Err (halt.Spent p)) h q = tt
need-comes-from-need H x s m (Err (halt.Full p)) h q = tt
need-comes-from-need H x s m (Err (halt.Over n)) h q = tt
need-comes-from-need H x s m (Err halt.NoMemory) h q = tt

-- parts without a need
pub needs-ticks : {H : Type 0} (p : Site) (n : ℕ) (x : Trace H) → NeedsNothing x → NeedsNothing (ticks p n x)
needs-ticks p zero x h = h
needs-ticks p (suc n) x h = needs-ticks p n x h

pub needs-then : {H : Type 0} (x y : Trace H) → NeedsNothing x → NeedsNothing y → NeedsNothing (x ⨾ y)
needs-then [] y h k = k
needs-then (Tick p ∷ x) y h k = needs-then x y h k
needs-then (Put e ∷ x) y h k = needs-then x y h k
needs-then (Say t ∷ x) y h k = needs-then x y h k
needs-then (Stop f p ∷ x) y h k = h
needs-then (Need g p ∷ x) y h k = absurd h
needs-then (Hole t ∷ x) y h k = needs-then x y h k

needs-puts : {H : Type 0} (x : Trace H) → NeedsNothing x → NeedsNothing (without_puts x)
needs-puts [] h = tt
needs-puts (Tick p ∷ x) h = needs-puts x h
needs-puts (Put e ∷ x) h = needs-puts x h
needs-puts (Say t ∷ x) h = needs-puts x h
needs-puts (Stop f p ∷ x) h = needs-puts x h
needs-puts (Need g p ∷ x) h = absurd h
needs-puts (Hole t ∷ x) h = needs-puts x h

pub needs-captured : {H : Type 0} (x : Trace H) (f : List Event → Trace H) → NeedsNothing x → ((es : List Event) → NeedsNothing (f es)) →
    NeedsNothing (captured x f)
needs-captured x f h k = needs-then (without_puts x) (f (events_of x)) (needs-puts x h) (k (events_of x))
