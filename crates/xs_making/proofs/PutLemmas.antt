-- Events that are put in order: one list after another, and an end on the way.
use Rattle.std.proofs.Common.{◌≡◌, ℕ, zero, suc, ◌/◌, List, [], ◌∷◌, ◌++◌, Option, None, Result, Ok, Err, OnOk}
use Rattle.std.proofs.Common.{append_assoc, append-nil, length, map, refl, sym, ap, subst, ◌∙◌}
use Rattle.xs_trace.specs.Event.{text_of}
use Rattle.xs_trace.specs.Mark.{Put, Trace, events_of, ticks, untimed}
use Rattle.xs_trace.specs.State.{All, Log, Nothing, State, Untimed, alone, stands}
use Rattle.xs_trace.specs.Play.{Ends, Goes, IsStep, Reported, and_then, goes, put, put_at, ticked_by}
use Rattle.xs_trace.specs.declared.event.Event.{Event}
use Rattle.xs_trace.specs.declared.item.Site.{Site}
use Rattle.xs_trace.specs.declared.recorder.Halt.{Halt}
use Rattle.xs_trace.proofs.GrowthLemmas.{Grows, goes-grows, grows-then, passes, put_at-grows}
use Rattle.xs_trace.proofs.PlayLemmas.{then-goes, then-same, then-then}
use Rattle.xs_making.specs.Putting.{Puts, events_steps}
use Rattle.xs_making.specs.steps.Listed.{listed}

pub events-grow : {H : Type 0} → (p : Site) (es : List Event) → Grows {H = H} (events_steps p es)
events-grow p [] s = goes-grows tt s
events-grow p (e ∷ es) s = grows-then s (put_at p e s) (λ u m. events_steps p es m) (put_at-grows p e s) (λ u. events-grow p es)

pub events-both : {H : Type 0} → (p : Site) (ls bs : List Event) (s : State H) →
    events_steps p (ls ++ bs) s ≡ and_then (events_steps p ls s) (λ u m. events_steps p bs m)
events-both p [] bs s = refl
events-both p (e ∷ ls) bs s =
    then-same (put_at p e s) (λ u m. events_steps p (ls ++ bs) m) (λ u m. and_then (events_steps p ls m) (λ v n. events_steps p bs n))
    (λ u m. events-both p ls bs m)
    ∙ sym (then-then (put_at p e s) (λ u m. events_steps p ls m) (λ v n. events_steps p bs n))

pub event-alone : {H : Type 0} → (p : Site) (e : Event) (s : State H) → put_at p e s ≡ events_steps p (e ∷ []) s
event-alone p e s = sym (then-goes (put_at p e s))

-- the first ones were put: what is left is put from where they led
pub events-after : {H : Type 0} → (p : Site) (all ls bs : List Event) (s m : State H) → all ≡ ls ++ bs → events_steps p ls s ≡ goes m →
    events_steps p all s ≡ events_steps p bs m
events-after p all ls bs s m is put =
    ap (λ es. events_steps p es s) is ∙ events-both p ls bs s ∙ ap (λ g. and_then g (λ u n. events_steps p bs n)) put

-- the first ones ended: so do all
pub events-end : {H : Type 0} → (p : Site) (all ls bs : List Event) (s m : State H) (result : Result (Unit {0}) Halt) (y h : Halt) → all ≡ ls ++ bs →
    result ≡ Err y → y ≡ h → Puts p ls s (Err h) m → Puts p all s result m
events-end p all ls bs s m result y h is a b put =
    passes (λ x. x) (λ x. x) (events_steps p all s) (events_steps p ls s) (λ u n. events_steps p bs n) m result y h
    (ap (λ es. events_steps p es s) is ∙ events-both p ls bs s) (λ u. events-grow p bs) a b put

-- some were put, and those that are left ended: so do all
pub events-then-end : {H : Type 0} → (p : Site) (all left ls bs : List Event) (old s m : State H) (result : Result (Unit {0}) Halt) (y h : Halt) →
    events_steps p all old ≡ events_steps p left s → left ≡ ls ++ bs → result ≡ Err y → y ≡ h → Puts p ls s (Err h) m → Puts p all old result m
events-then-end p all left ls bs old s m result y h reported is a b put =
    passes (λ x. x) (λ x. x) (events_steps p all old) (events_steps p ls s) (λ u n. events_steps p bs n) m result y h
    (reported ∙ ap (λ es. events_steps p es s) is ∙ events-both p ls bs s) (λ u. events-grow p bs) a b put

-- the first ones were put: what the others come to is what all come to
pub events-go : {H : Type 0} → (p : Site) (all ls bs : List Event) (s m n : State H) (result : Result (Unit {0}) Halt) → all ≡ ls ++ bs →
    events_steps p ls s ≡ goes m → Puts p bs m result n → Puts p all s result n
events-go p all ls bs s m n result is put rest = subst (λ g. IsStep g result n) (sym (events-after p all ls bs s m is put)) rest

-- ---- a list
abbrev marks : (H : Type 0) → List Event → Trace H
marks H es = map Put es

-- what was recorded, where one stands at no place or some
abbrev untimed-at : {H : Type 0} → Trace H → Option Site → State H
untimed-at t at = record { reported = Untimed t; captures = []; at = at; room = None; left = None; shared = alone }

marks-more : (H : Type 0) (xs es : List Event) → marks H xs ++ marks H es ≡ marks H (xs ++ es)
marks-more H [] es = refl
marks-more H (x ∷ xs) es = ap (λ t. Put x ∷ t) (marks-more H xs es)

listed-put : (H : Type 0) (e : Event) (xs : List Event) → put {H = H} e (listed xs) ≡ goes (listed (xs ++ e ∷ []))
listed-put H e xs = ap (λ t. goes (untimed-at t None)) (marks-more H xs (e ∷ []))

pub listed_put : {H : Type 0} (e : Event) (xs ys : List Event) → ys ≡ xs ++ e ∷ [] → put {H = H} e (listed xs) ≡ goes (listed ys)
listed_put {H} e xs ys is = listed-put H e xs ∙ ap (λ es. goes (listed {H = H} es)) (sym is)

stands-none : (n : ℕ) (p : Site) → stands n p None ≡ None
stands-none zero p = refl
stands-none (suc n) p = refl

untimed-ticks : (H : Type 0) (n : ℕ) (p : Site) → untimed (ticks {H = H} p n []) ≡ []
untimed-ticks H zero p = refl
untimed-ticks H (suc n) p = untimed-ticks H n p

listed-ticked : (H : Type 0) (n : ℕ) (p : Site) (xs : List Event) → ticked_by {H = H} n p (listed xs) ≡ goes (listed xs)
listed-ticked H n p xs =
    ap (λ t. goes (untimed-at (marks H xs ++ t) (stands n p None))) (untimed-ticks H n p)
    ∙ ap (λ t. goes (untimed-at t (stands n p None))) (append-nil (marks H xs)) ∙ ap (λ at. goes (untimed-at (marks H xs) at)) (stands-none n p)

listed-all : (H : Type 0) (p : Site) (es xs : List Event) → events_steps {H = H} p es (listed xs) ≡ goes (listed (xs ++ es))
listed-all H p [] xs = ap (λ es. goes (listed {H = H} es)) (sym (append-nil xs))
listed-all H p (e ∷ es) xs =
    ap (λ g. and_then (and_then g (λ u m. put {H = H} e m)) (λ u m. events_steps p es m)) (listed-ticked H (length (text_of e) / 256) p xs)
    ∙ ap (λ g. and_then g (λ u m. events_steps p es m)) (listed-put H e xs) ∙ listed-all H p es (xs ++ e ∷ [])
    ∙ ap (λ ys. goes (listed {H = H} ys)) (append_assoc xs (e ∷ []) es)

-- the events of what was recorded
abbrev events-reported : {H : Type 0} → Log H → List Event
events-reported Nothing = []
events-reported (All t) = events_of t
events-reported (Untimed t) = events_of t

abbrev events-in : {H : Type 0} → Reported H → List Event
events-in (Goes u s) = events-reported s.reported
events-in (Ends e t l h) = []

events-marked : (H : Type 0) (xs : List Event) → events_of (marks H xs) ≡ xs
events-marked H [] = refl
events-marked H (x ∷ xs) = ap (λ ys. x ∷ ys) (events-marked H xs)

-- what is in the list after some were put
pub listed-puts : (H : Type 0) (p : Site) (es xs ys : List Event) (result : Result (Unit {0}) Halt) → Puts {H = H} p es (listed xs) result (listed ys)
    → OnOk result (ys ≡ xs ++ es)
listed-puts H p es xs ys (Ok u) reported =
    sym (events-marked H ys) ∙ ap (events-in {H = H}) (sym reported ∙ listed-all H p es xs) ∙ events-marked H (xs ++ es)
listed-puts H p es xs ys (Err h) reported = tt
