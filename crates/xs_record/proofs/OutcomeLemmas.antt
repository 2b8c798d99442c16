-- Two outcomes of one cut are the same.
use Rattle.std.proofs.Common.{◌≡◌, ℕ, zero, suc, List, [], ◌∷◌, ◌++◌, map, Option, Some, None, refl, sym, ap, ◌∙◌, append_assoc, append-nil, arith}
use Rattle.xs_record.specs.Segment.{items_of}
use Rattle.xs_trace.specs.Mark.{Tick, Put, Say, Stop, Need, Hole, Trace, ticks}
use Rattle.xs_trace.specs.Kept.{item_marks, marks_of, IsPacked}
use Rattle.xs_trace.specs.declared.item.Item.{Item}
use Rattle.xs_trace.specs.declared.item.Item.TheVariants as item
use Rattle.xs_trace.specs.declared.item.Site.{Site}
use Rattle.xs_trace.proofs.KeptLemmas.{some_same}
use Rattle.xs_trace.proofs.PackedLemmas.{packed-once}
use Rattle.xs_record.specs.Outcome.{hole_mark, part_marks, shown, AreParts, OutcomesAgree}
use Rattle.xs_record.specs.declared.outcome.Part.{Part}

-- what stands before the first hole, what follows it, and whether there is one
abbrev before_hole : Trace ℕ → Trace ℕ
before_hole [] = []
before_hole (Tick p ∷ x) = Tick p ∷ before_hole x
before_hole (Put e ∷ x) = Put e ∷ before_hole x
before_hole (Say t ∷ x) = Say t ∷ before_hole x
before_hole (Stop f p ∷ x) = Stop f p ∷ before_hole x
before_hole (Need g p ∷ x) = Need g p ∷ before_hole x
before_hole (Hole k ∷ x) = []

abbrev after_hole : Trace ℕ → Trace ℕ
after_hole [] = []
after_hole (Tick p ∷ x) = after_hole x
after_hole (Put e ∷ x) = after_hole x
after_hole (Say t ∷ x) = after_hole x
after_hole (Stop f p ∷ x) = after_hole x
after_hole (Need g p ∷ x) = after_hole x
after_hole (Hole k ∷ x) = x

abbrev has_hole : Trace ℕ → ℕ
has_hole [] = 0
has_hole (Tick p ∷ x) = has_hole x
has_hole (Put e ∷ x) = has_hole x
has_hole (Say t ∷ x) = has_hole x
has_hole (Stop f p ∷ x) = has_hole x
has_hole (Need g p ∷ x) = has_hole x
has_hole (Hole k ∷ x) = 1

-- items have no hole
record Passes (y x : Trace ℕ) : Type 0 where
  pub before : before_hole (y ++ x) ≡ y ++ before_hole x
  pub after : after_hole (y ++ x) ≡ after_hole x
  pub has : has_hole (y ++ x) ≡ has_hole x

ticks-pass : (p : Site) (n : ℕ) (x : Trace ℕ) → Passes (ticks p n []) x
ticks-pass p zero x = record { before = refl; after = refl; has = refl }
ticks-pass p (suc n) x =
    let h : Passes (ticks p n []) x = ticks-pass p n x in
    record { before = ap (λ y. Tick p ∷ y) h.before; after = h.after; has = h.has }

item-passes : (i : Item) (x : Trace ℕ) → Passes (item_marks i) x
item-passes (item.Run m l n) x = ticks-pass _ n x
item-passes (item.Put e) x = record { before = refl; after = refl; has = refl }
item-passes (item.Say t) x = record { before = refl; after = refl; has = refl }

items-pass : (is : List Item) (x : Trace ℕ) → Passes (marks_of is) x
items-pass [] x = record { before = refl; after = refl; has = refl }
items-pass (i ∷ is) x =
    let h : Passes (item_marks i) (marks_of is ++ x) = item-passes i (marks_of is ++ x) in
    let k : Passes (marks_of is) x = items-pass is x in
    let a : (item_marks i ++ marks_of is) ++ x ≡ item_marks i ++ (marks_of is ++ x) = append_assoc (item_marks i) (marks_of is) x in
    record {
      before = ap before_hole a ∙ h.before ∙ ap (λ y. item_marks i ++ y) k.before
          ∙ sym (append_assoc (item_marks i) (marks_of is) (before_hole x));
      after = ap after_hole a ∙ h.after ∙ k.after;
      has = ap has_hole a ∙ h.has ∙ k.has;
    }

-- a part that a hole follows
front : (p : Part) (ps : List Part) (n : ℕ) → p.hole ≡ Some n → part_marks (p ∷ ps) ≡ marks_of (items_of p.items) ++ (Hole n ∷ part_marks ps)
front p ps n e =
    ap (λ o. (marks_of (items_of p.items) ++ hole_mark o) ++ part_marks ps) e
    ∙ append_assoc (marks_of (items_of p.items)) (Hole n ∷ []) (part_marks ps)

-- the part that no hole follows
back : (p : Part) → p.hole ≡ None → part_marks (p ∷ []) ≡ marks_of (items_of p.items) ++ []
back p e =
    append-nil (marks_of (items_of p.items) ++ hole_mark p.hole) ∙ ap (λ o. marks_of (items_of p.items) ++ hole_mark o) e

front-before : (p : Part) (ps : List Part) (n : ℕ) → p.hole ≡ Some n → before_hole (part_marks (p ∷ ps)) ≡ marks_of (items_of p.items)
front-before p ps n e =
    ap before_hole (front p ps n e) ∙ (items-pass (items_of p.items) (Hole n ∷ part_marks ps)).before ∙ append-nil (marks_of (items_of p.items))

front-after : (p : Part) (ps : List Part) (n : ℕ) → p.hole ≡ Some n → after_hole (part_marks (p ∷ ps)) ≡ part_marks ps
front-after p ps n e = ap after_hole (front p ps n e) ∙ (items-pass (items_of p.items) (Hole n ∷ part_marks ps)).after

front-has : (p : Part) (ps : List Part) (n : ℕ) → p.hole ≡ Some n → has_hole (part_marks (p ∷ ps)) ≡ 1
front-has p ps n e = ap has_hole (front p ps n e) ∙ (items-pass (items_of p.items) (Hole n ∷ part_marks ps)).has

back-has : (p : Part) → p.hole ≡ None → has_hole (part_marks (p ∷ [])) ≡ 0
back-has p e = ap has_hole (back p e) ∙ (items-pass (items_of p.items) []).has

shown-same : (p q : Part) (o : Option ℕ) → IsPacked (items_of p.items) → IsPacked (items_of q.items) →
    marks_of {H = ℕ} (items_of p.items) ≡ marks_of (items_of q.items) → p.hole ≡ o → q.hole ≡ o → shown p ≡ shown q
shown-same p q o h k e a b =
    ap (λ is. (is, p.hole)) (packed-once ℕ (items_of p.items) (items_of q.items) h k e) ∙ ap (λ n. (items_of q.items, n)) (a ∙ sym b)

parts-same : (n : ℕ) (ps qs : List Part) → AreParts n ps → AreParts n qs → part_marks ps ≡ part_marks qs → map shown ps ≡ map shown qs
parts-same n [] qs h k e = absurd h
parts-same n (p ∷ ps) [] h k e = absurd k
parts-same n (p ∷ []) (q ∷ []) h k e =
    let m : marks_of {H = ℕ} (items_of p.items) ≡ marks_of (items_of q.items) =
    sym (append-nil (marks_of (items_of p.items))) ∙ sym (back p h.0) ∙ e ∙ back q k.0 ∙ append-nil (marks_of (items_of q.items)) in
    ap (λ s. s ∷ []) (shown-same p q None h.1 k.1 m h.0 k.0)
parts-same n (p ∷ []) (q ∷ r ∷ qs) h k e =
    let d : 0 ≡ 1 = sym (back-has p h.0) ∙ ap has_hole e ∙ front-has q (r ∷ qs) n k.0 in
    absurd (omega (arith, d))
parts-same n (p ∷ r ∷ ps) (q ∷ []) h k e =
    let d : 1 ≡ 0 = sym (front-has p (r ∷ ps) n h.0) ∙ ap has_hole e ∙ back-has q k.0 in
    absurd (omega (arith, d))
parts-same n (p ∷ r ∷ ps) (q ∷ s ∷ qs) h k e =
    let m : marks_of {H = ℕ} (items_of p.items) ≡ marks_of (items_of q.items) =
    sym (front-before p (r ∷ ps) n h.0) ∙ ap before_hole e ∙ front-before q (s ∷ qs) n k.0 in
    let z : part_marks (r ∷ ps) ≡ part_marks (s ∷ qs) =
    sym (front-after p (r ∷ ps) n h.0) ∙ ap after_hole e ∙ front-after q (s ∷ qs) n k.0 in
    ap (λ t. t ∷ map shown (r ∷ ps)) (shown-same p q (Some n) h.1.0 k.1.0 m h.0 k.0)
    ∙ ap (λ ts. shown q ∷ ts) (parts-same (suc n) (r ∷ ps) (s ∷ qs) h.1.1 k.1.1 z)

pub outcomes-agree : (H : Type 0) → OutcomesAgree H
outcomes-agree H x l o p h k = record {
  parts = parts-same 0 o.parts.items p.parts.items h.parts k.parts (h.marks ∙ sym k.marks);
  ended = some_same (sym h.ended ∙ k.ended);
  ticks = h.ticks ∙ sym k.ticks;
}
