-- What a whole run gives of a trace without holes.
use Rattle.std.proofs.Common.{◌≡◌, ℕ, zero, suc, List, [], ◌∷◌, ◌++◌, Option, None, refl, sym, ap, subst, ◌∙◌, append-nil}
use Rattle.xs_record.specs.Segment.{items_of}
use Rattle.xs_record.specs.Outcome.{hole_mark, part_marks, AreParts, IsOutcome}
use Rattle.xs_record.specs.declared.outcome.Outcome.{Outcome}
use Rattle.xs_record.specs.declared.outcome.Part.{Part}
use Rattle.xs_trace.specs.Cut.{Cut, cut, nowhere}
use Rattle.xs_trace.specs.Fill.{numbered}
use Rattle.xs_trace.specs.Kept.{ended_by, item_marks, marks_of}
use Rattle.xs_trace.specs.Mark.{Tick, Put, Say, Stop, Need, Hole, Trace, ticks, tick_count}
use Rattle.xs_trace.specs.declared.item.Item.{Item}
use Rattle.xs_trace.specs.declared.item.Item.TheVariants as item
use Rattle.xs_trace.specs.declared.item.Limits.{Limits}
use Rattle.xs_trace.specs.declared.item.Site.{Site}
use Rattle.xs_trace.proofs.KnownLemmas.{numbered-laws}
use Rattle.xs_body_spec.specs.Tasks.{Task}
use Rattle.xs_body_spec.proofs.HoleLemmas.{HasNoHole, none-cut, none-first, none-last, none-numbered}
use Rattle.xs_body.specs.Results.{IsWholeRun}

-- the marks, whatever fills holes
abbrev without_holes : {H K : Type 0} → Trace H → Trace K
without_holes [] = []
without_holes (Tick p ∷ x) = Tick p ∷ without_holes x
without_holes (Put e ∷ x) = Put e ∷ without_holes x
without_holes (Say t ∷ x) = Say t ∷ without_holes x
without_holes (Stop f p ∷ x) = Stop f p ∷ without_holes x
without_holes (Need g p ∷ x) = Need g p ∷ without_holes x
without_holes (Hole k ∷ x) = without_holes x

ticks-stay : (H K : Type 0) (p : Site) (n : ℕ) (x : Trace H) → without_holes {H = H} {K = K} (ticks p n [] ++ x) ≡ ticks p n [] ++ without_holes x
ticks-stay H K p zero x = refl
ticks-stay H K p (suc n) x = ap (λ y. Tick p ∷ y) (ticks-stay H K p n x)

item-stays : (H K : Type 0) (i : Item) (x : Trace H) → without_holes {H = H} {K = K} (item_marks i ++ x) ≡ item_marks i ++ without_holes x
item-stays H K (item.Run m l n) x = ticks-stay H K (record { «module» = m; line = l }) n x
item-stays H K (item.Put e) x = refl
item-stays H K (item.Say t) x = refl

items-stay : (H K : Type 0) (is : List Item) → without_holes {H = H} {K = K} (marks_of is) ≡ marks_of is
items-stay H K [] = refl
items-stay H K (i ∷ is) = item-stays H K i (marks_of is) ∙ ap (λ x. item_marks i ++ x) (items-stay H K is)

numbers-go : {H : Type 0} (n : ℕ) (x : Trace H) → HasNoHole x → without_holes {H = ℕ} {K = H} (numbered n x) ≡ x
numbers-go n [] h = refl
numbers-go n (Tick p ∷ x) h = ap (λ y. Tick p ∷ y) (numbers-go n x h)
numbers-go n (Put e ∷ x) h = ap (λ y. Put e ∷ y) (numbers-go n x h)
numbers-go n (Say t ∷ x) h = ap (λ y. Say t ∷ y) (numbers-go n x h)
numbers-go n (Stop f p ∷ x) h = ap (λ y. Stop f p ∷ y) (numbers-go n x h)
numbers-go n (Need g p ∷ x) h = ap (λ y. Need g p ∷ y) (numbers-go n x h)
numbers-go n (Hole t ∷ x) h = absurd h

-- the one part
record IsOne (ps : List Part) : Type 0 where
  pub part : Part
  pub only : ps ≡ part ∷ []
  pub hole : part.hole ≡ None

parts-one : (n : ℕ) (ps : List Part) → AreParts n ps → HasNoHole (part_marks ps) → IsOne ps
parts-one n [] h k = absurd h
parts-one n (p ∷ []) h k = record { part = p; only = refl; hole = h.0 }
parts-one n (p ∷ q ∷ ps) h k =
    let a : HasNoHole (marks_of {H = ℕ} (items_of p.items) ++ hole_mark p.hole) =
    none-first (marks_of {H = ℕ} (items_of p.items) ++ hole_mark p.hole) (part_marks (q ∷ ps)) k in
    let b : HasNoHole (hole_mark p.hole) = none-last (marks_of (items_of p.items)) (hole_mark p.hole) a in
    absurd (subst (λ (o : Option ℕ). HasNoHole (hole_mark o)) h.0 b)

one-marks : (p : Part) → p.hole ≡ None → part_marks (p ∷ []) ≡ marks_of (items_of p.items)
one-marks p e =
    append-nil (marks_of (items_of p.items) ++ hole_mark p.hole)
    ∙ ap (λ (o : Option ℕ). marks_of (items_of p.items) ++ hole_mark o) e
    ∙ append-nil (marks_of (items_of p.items))

pub whole-run : (x : Trace Task) (l : Limits) (o : Outcome) → HasNoHole x → IsOutcome x l o → IsWholeRun (cut x l.ticks l.events) o
whole-run x l o none h =
    let c : Cut Task = cut x l.ticks l.events in
    let n : cut (numbered 0 x) l.ticks l.events ≡ record { passed = numbered 0 c.passed; end = c.end }
    = (numbered-laws Task).cuts x nowhere l.ticks l.events 0 in
    let m : part_marks o.parts.items ≡ numbered 0 c.passed = h.marks ∙ ap (λ (z : Cut ℕ). z.passed) n in
    let some : HasNoHole c.passed = none-cut x none nowhere l.ticks l.events in
    let one : IsOne o.parts.items = parts-one 0 o.parts.items h.parts (subst HasNoHole (sym m) (none-numbered 0 c.passed some)) in
    let is : List Item = items_of one.part.items in
    let same : marks_of {H = ℕ} is ≡ numbered 0 c.passed = sym (one-marks one.part one.hole) ∙ ap part_marks (sym one.only) ∙ m in
    record {
      part = one.part;
      only = one.only;
      marks = sym (items-stay ℕ Task is) ∙ ap (λ (y : Trace ℕ). without_holes {H = ℕ} {K = Task} y) same ∙ numbers-go 0 c.passed some;
      ended = sym (ap (λ (z : Cut ℕ). ended_by z.end) n) ∙ h.ended;
      ticks = h.ticks ∙ ap (λ (z : Cut ℕ). tick_count z.passed) n ∙ (numbered-laws Task).ticks 0 c.passed;
    }
