-- What items give one by one is what their marks give.
use Rattle.std.proofs.Common.{◌≡◌, ℕ, zero, suc, List, [], ◌∷◌, ◌++◌, ◌⊎◌, inl, inr, map, refl, sym, ap, ◌∙◌, append_assoc}
use Rattle.std.proofs.lemmas.Iterator.{items_from_drains}
use Rattle.std.proofs.lemmas.Iterator.Consumers.{YieldsList-from_first}
use Rattle.std.specs.Iterator.{Drains, DrainsIf, YieldsFirstBy}
use denote.Ref.{Bor}
use Rattle.xs_body_spec.specs.Tasks.{Task}
use Rattle.xs_trace.specs.declared.event.Event.{Event}
use Rattle.xs_trace.specs.declared.item.Item.{Item}
use Rattle.xs_trace.specs.declared.item.Item.TheVariants as item
use Rattle.xs_trace.specs.declared.item.Site.{Site}
use Rattle.xs_trace.specs.Mark.{Tick, Put, Say, Stop, Need, Hole, Trace, ticks, events_of}
use Rattle.xs_trace.specs.Kept.{item_marks, marks_of}
use Rattle.xs_record.specs.Segment.{content_items, joined, run_items}
use Rattle.xs_record.specs.Store.{pending}
use Rattle.xs_record.specs.declared.segment.Content.{Content}
use Rattle.xs_record.specs.declared.segment.Run.{Run}
use Rattle.xs_reply.specs.Items.{events_in}

events-joined : (x y : Trace Task) → events_of (x ++ y) ≡ events_of x ++ events_of y
events-joined [] y = refl
events-joined (Tick p ∷ x) y = events-joined x y
events-joined (Put e ∷ x) y = ap (λ es. e ∷ es) (events-joined x y)
events-joined (Say t ∷ x) y = events-joined x y
events-joined (Stop f p ∷ x) y = events-joined x y
events-joined (Need g p ∷ x) y = events-joined x y
events-joined (Hole k ∷ x) y = events-joined x y

marks-joined : (is js : List Item) → marks_of {H = Task} (is ++ js) ≡ marks_of is ++ marks_of js
marks-joined [] js = refl
marks-joined (i ∷ is) js = ap (λ x. item_marks i ++ x) (marks-joined is js) ∙ sym (append_assoc (item_marks i) (marks_of is) (marks_of js))

pub events_append : (is js : List Item) → events_in (is ++ js) ≡ events_in is ++ events_in js
events_append is js = ap (λ (x : Trace Task). events_of x) (marks-joined is js) ∙ events-joined (marks_of is) (marks_of js)

-- the events of a segment and of those after it
pub events_after : (is : List Item) (ss : List (List Item)) → events_in (joined (is ∷ ss)) ≡ events_in is ++ events_in (joined ss)
events_after is ss = events_append is (joined ss)

ticks-events : (p : Site) (n : ℕ) → events_of {H = Task} (ticks p n []) ≡ []
ticks-events p zero = refl
ticks-events p (suc n) = ticks-events p n

run-events : (p : Site) (n : ℕ) → events_in (pending p n) ≡ []
run-events p zero = refl
run-events p (suc n) = events-joined (ticks p (suc n) []) [] ∙ ap (λ es. es ++ []) (ticks-events p (suc n))

-- the events of a segment are those of its item
pub content_events : (c : Content) (is : List Item) → content_items c ≡ is → events_in (c.item.now ∷ []) ≡ events_in is
content_events c is e = sym (after c.first (run_items c.last ++ c.item.now ∷ []) ∙ after c.last (c.item.now ∷ [])) ∙ ap events_in e
  where
    after : (r : Run) (is : List Item) → events_in (run_items r ++ is) ≡ events_in is
    after r is = events_append (run_items r) is ∙ ap (λ es. es ++ events_in is) (run-events r.site r.ticks)

-- and where its item is no event, there are none
pub no_event : (c : Content) (is : List Item) → content_items c ≡ is
    → (((m : ℕ) × (l : ℕ) × (n : ℕ) × (c.item.now ≡ item.Run m l n)) ⊎ ((t : List ℕ) × (c.item.now ≡ item.Say t))) → [] ≡ events_in is
no_event c is e (inl (m, l, n, i)) =
    sym (events-joined (ticks (record { «module» = m; line = l }) n []) [] ∙ ap (λ es. es ++ []) (ticks-events (record { «module» = m; line = l }) n))
    ∙ ap (λ i. events_in (i ∷ [])) (sym i) ∙ content_events c is e
no_event c is e (inr (t, i)) = ap (λ i. events_in (i ∷ [])) (sym i) ∙ content_events c is e

-- what is written of the events that an iterator over them gave, appended to nothing
pub drained : (bytes : List Event → List ℕ) (segments : List (List Item)) (es : List (Bor Event)) (out before : List ℕ)
    → Drains (YieldsFirstBy (λ (e : Bor Event). e.now) (λ (a : List Event). a)) (events_in (joined segments)) es → before ≡ []
    → out ≡ before ++ bytes (map (λ e. e.now) es) → out ≡ bytes (events_in (joined segments))
drained bytes segments es out before drains none is =
    let all : DrainsIf (YieldsFirstBy (λ (e : Bor Event). e.now) (λ (a : List Event). a)) (Unit {0}) (events_in (joined segments)) es =
    (drains.1.0, drains.1.1, λ u. (drains.0, drains.1.2)) in
    is ∙ ap (λ b. b ++ bytes (map (λ (e : Bor Event). e.now) es)) none
    ∙ ap bytes
    (items_from_drains es all (YieldsList-from_first (λ (e : Bor Event). e.now) (λ (a : List Event). a) (events_in (joined segments)) refl))
