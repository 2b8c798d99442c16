-- Packed items with the same marks are the same.
use Rattle.std.proofs.Common.{◌≡◌, ℕ, zero, suc, List, [], ◌∷◌, ◌++◌, Option, Some, None, refl, sym, ap, ◌∙◌, arith}
use Rattle.xs_trace.specs.Mark.{Tick, Put, Say, Stop, Need, Hole, Trace, ticks}
use Rattle.xs_trace.specs.Kept.{marks_of, first_run, IsPacked}
use Rattle.xs_trace.specs.Keeping.{PackedOnce}
use Rattle.xs_trace.specs.declared.event.Event.{Event}
use Rattle.xs_trace.specs.declared.item.Item.{Item}
use Rattle.xs_trace.specs.declared.item.Item.TheVariants as item
use Rattle.xs_trace.specs.declared.item.Site.{Site}
use Rattle.xs_trace.proofs.KeptLemmas.{some_same}

-- ---- what a trace begins with

abbrev behind_first : {H : Type 0} → Trace H → Trace H
behind_first [] = []
behind_first (m ∷ x) = x

-- the place of the tick that it begins with, if it does
abbrev tick_place : {H : Type 0} → Trace H → Option Site
tick_place [] = None
tick_place (Tick p ∷ x) = Some p
tick_place (Put e ∷ x) = None
tick_place (Say t ∷ x) = None
tick_place (Stop f p ∷ x) = None
tick_place (Need g p ∷ x) = None
tick_place (Hole k ∷ x) = None

-- the kind of its first mark
abbrev kind : {H : Type 0} → Trace H → ℕ
kind [] = 0
kind (Tick p ∷ x) = 3
kind (Put e ∷ x) = 1
kind (Say t ∷ x) = 2
kind (Stop f p ∷ x) = 3
kind (Need g p ∷ x) = 3
kind (Hole k ∷ x) = 3

-- the event or the text of its first mark, or else another
abbrev event_in : {H : Type 0} → Event → Trace H → Event
event_in d [] = d
event_in d (Tick p ∷ x) = d
event_in d (Put e ∷ x) = e
event_in d (Say t ∷ x) = d
event_in d (Stop f p ∷ x) = d
event_in d (Need g p ∷ x) = d
event_in d (Hole k ∷ x) = d

abbrev text_in : {H : Type 0} → List ℕ → Trace H → List ℕ
text_in d [] = d
text_in d (Tick p ∷ x) = d
text_in d (Put e ∷ x) = d
text_in d (Say t ∷ x) = t
text_in d (Stop f p ∷ x) = d
text_in d (Need g p ∷ x) = d
text_in d (Hole k ∷ x) = d

-- ---- runs

-- ticks at a place, before what does not begin with such a tick
ticks-apart : {H : Type 0} (p : Site) (n m : ℕ) (x y : Trace H) → (tick_place x ≡ Some p → ⊥) → (tick_place y ≡ Some p → ⊥) →
    ticks p n x ≡ ticks p m y → (n ≡ m) × (x ≡ y)
ticks-apart p zero zero x y a b e = (refl, e)
ticks-apart p zero (suc m) x y a b e = absurd (a (ap tick_place e))
ticks-apart p (suc n) zero x y a b e = absurd (b (sym (ap tick_place e)))
ticks-apart p (suc n) (suc m) x y a b e =
    let r : (n ≡ m) × (x ≡ y) = ticks-apart p n m x y a b (ap behind_first e) in
    (ap suc r.0, r.1)

-- ticks before any marks are joined on
ticks-before : {H : Type 0} (p : Site) (n : ℕ) (y : Trace H) → ticks p n [] ++ y ≡ ticks p n y
ticks-before p zero y = refl
ticks-before p (suc n) y = ap (λ t. Tick p ∷ t) (ticks-before p n y)

-- the place of the ticks that packed items begin with
first-marks : (H : Type 0) (is : List Item) → IsPacked is → tick_place {H = H} (marks_of is) ≡ first_run is
first-marks H [] h = refl
first-marks H (item.Run m l zero ∷ is) h = absurd (omega (arith, h.0))
first-marks H (item.Run m l (suc n) ∷ is) h = refl
first-marks H (item.Put e ∷ is) h = refl
first-marks H (item.Say t ∷ is) h = refl

has_place : Option Site → ℕ
has_place None = 0
has_place (Some p) = 1

none-place : (p : Site) → None ≡ Some p → ⊥
unfolding has_place
none-place p e = let d : 0 ≡ 1 = ap has_place e in absurd (omega (arith, d))

first-same : (H : Type 0) (is js : List Item) → IsPacked is → IsPacked js → marks_of {H = H} is ≡ marks_of js → first_run is ≡ first_run js
first-same H is js h k e = sym (first-marks H is h) ∙ ap tick_place e ∙ first-marks H js k

-- a run is followed by no tick at its place
apart : (H : Type 0) (m l n : ℕ) (is : List Item) → IsPacked (item.Run m l n ∷ is) →
    tick_place {H = H} (marks_of is) ≡ Some (record { «module» = m; line = l }) → ⊥
apart H m l n is h e = h.1.0 (sym (first-marks H is h.1.1) ∙ e)

runs-of : (m a l b n k : ℕ) (is js : List Item) → m ≡ a → l ≡ b → n ≡ k → is ≡ js → item.Run m l n ∷ is ≡ item.Run a b k ∷ js
runs-of m a l b n k is js p q r e =
    ap (λ i. item.Run i l n ∷ is) p ∙ ap (λ i. item.Run a i n ∷ is) q ∙ ap (λ i. item.Run a b i ∷ is) r ∙ ap (λ i. item.Run a b k ∷ i) e

pub packed-once : (H : Type 0) → PackedOnce H
packed-once H [] [] h k e = refl
packed-once H [] (item.Run m l n ∷ js) h k e = absurd (none-place _ (first-same H [] (item.Run m l n ∷ js) h k e))
packed-once H [] (item.Put v ∷ js) h k e = let d : 0 ≡ 1 = ap kind e in absurd (omega (arith, d))
packed-once H [] (item.Say t ∷ js) h k e = let d : 0 ≡ 2 = ap kind e in absurd (omega (arith, d))
packed-once H (item.Run m l n ∷ is) [] h k e = absurd (none-place _ (sym (first-same H (item.Run m l n ∷ is) [] h k e)))
packed-once H (item.Run m l n ∷ is) (item.Run a b j ∷ js) h k e =
    let p : Site = record { «module» = m; line = l } in
    let q : Site = record { «module» = a; line = b } in
    let same : p ≡ q = some_same (first-same H (item.Run m l n ∷ is) (item.Run a b j ∷ js) h k e) in
    let f : ticks {H = H} p n (marks_of is) ≡ ticks q j (marks_of js) = sym (ticks-before p n (marks_of is)) ∙ e ∙ ticks-before q j (marks_of js) in
    let r : (n ≡ j) × (marks_of {H = H} is ≡ marks_of js) =
    ticks-apart p n j (marks_of is) (marks_of js) (apart H m l n is h) (λ d. apart H a b j js k (d ∙ ap Some same))
    (f ∙ ap (λ s. ticks s j (marks_of js)) (sym same)) in
    runs-of m a l b n j is js (ap (λ s. s.«module») same) (ap (λ s. s.line) same) r.0 (packed-once H is js h.1.1 k.1.1 r.1)
packed-once H (item.Run m l n ∷ is) (item.Put v ∷ js) h k e =
    absurd (none-place _ (sym (first-same H (item.Run m l n ∷ is) (item.Put v ∷ js) h k e)))
packed-once H (item.Run m l n ∷ is) (item.Say t ∷ js) h k e =
    absurd (none-place _ (sym (first-same H (item.Run m l n ∷ is) (item.Say t ∷ js) h k e)))
packed-once H (item.Put v ∷ is) [] h k e = let d : 1 ≡ 0 = ap kind e in absurd (omega (arith, d))
packed-once H (item.Put v ∷ is) (item.Run m l n ∷ js) h k e =
    absurd (none-place _ (first-same H (item.Put v ∷ is) (item.Run m l n ∷ js) h k e))
packed-once H (item.Put v ∷ is) (item.Put w ∷ js) h k e =
    ap (λ u. item.Put u ∷ is) (ap (event_in v) e) ∙ ap (λ l. item.Put w ∷ l) (packed-once H is js h k (ap behind_first e))
packed-once H (item.Put v ∷ is) (item.Say t ∷ js) h k e = let d : 1 ≡ 2 = ap kind e in absurd (omega (arith, d))
packed-once H (item.Say t ∷ is) [] h k e = let d : 2 ≡ 0 = ap kind e in absurd (omega (arith, d))
packed-once H (item.Say t ∷ is) (item.Run m l n ∷ js) h k e =
    absurd (none-place _ (first-same H (item.Say t ∷ is) (item.Run m l n ∷ js) h k e))
packed-once H (item.Say t ∷ is) (item.Put w ∷ js) h k e = let d : 2 ≡ 1 = ap kind e in absurd (omega (arith, d))
packed-once H (item.Say t ∷ is) (item.Say u ∷ js) h k e =
    ap (λ v. item.Say v ∷ is) (ap (text_in t) e) ∙ ap (λ l. item.Say u ∷ l) (packed-once H is js h k (ap behind_first e))
