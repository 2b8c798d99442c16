-- The laws of traces and their cuts, by induction on the marks.
use Rattle.std.proofs.Common.{◌≡◌, ℕ, zero, suc, ◌-◌, ◌≤◌, [], ◌∷◌, length, Option, Some, None, refl, sym, ap, ◌∙◌, arith}
use Rattle.xs_trace.specs.Mark.{Mark, Tick, Put, Say, Stop, Need, Hole, Trace, ◌⨾◌, tick_count, events_of, last_site, without_puts}
use Rattle.xs_trace.specs.Cut.{End, Whole, Fault, Needs, Spent, Full, Cut, after_mark, cut_from, less, Within, Allows, follow, followed, cut_again}
use Rattle.xs_trace.specs.Cut.{IsEnd, IsLongest}
use Rattle.xs_trace.specs.Laws.{PartsJoin}
use Rattle.xs_trace.specs.declared.item.Site.{Site}

pub then-assoc : {H : Type 0} → (x y z : Trace H) → (x ⨾ y) ⨾ z ≡ x ⨾ (y ⨾ z)
then-assoc [] y z = refl
then-assoc (Tick p ∷ x) y z = ap (λ t. Tick p ∷ t) (then-assoc x y z)
then-assoc (Put e ∷ x) y z = ap (λ t. Put e ∷ t) (then-assoc x y z)
then-assoc (Say s ∷ x) y z = ap (λ t. Say s ∷ t) (then-assoc x y z)
then-assoc (Stop f p ∷ x) y z = refl
then-assoc (Need g p ∷ x) y z = refl
then-assoc (Hole k ∷ x) y z = ap (λ t. Hole k ∷ t) (then-assoc x y z)

pub then-nil : {H : Type 0} → (x : Trace H) → (x ⨾ []) ≡ x
then-nil [] = refl
then-nil (Tick p ∷ x) = ap (λ t. Tick p ∷ t) (then-nil x)
then-nil (Put e ∷ x) = ap (λ t. Put e ∷ t) (then-nil x)
then-nil (Say s ∷ x) = ap (λ t. Say s ∷ t) (then-nil x)
then-nil (Stop f p ∷ x) = refl
then-nil (Need g p ∷ x) = refl
then-nil (Hole k ∷ x) = ap (λ t. Hole k ∷ t) (then-nil x)

-- a mark before what is followed
after-follow : {H : Type 0} → (k : Mark H) (e : End) (x : Trace H) (d : Cut H) → after_mark k (follow e x d) ≡ follow e (k ∷ x) d
after-follow k Whole x d = refl
after-follow k (Fault f p) x d = refl
after-follow k (Needs g p) x d = refl
after-follow k (Spent p) x d = refl
after-follow k (Full p) x d = refl

after-followed : {H : Type 0} → (k : Mark H) (c c1 d : Cut H) → c ≡ followed c1 d → after_mark k c ≡ followed (after_mark k c1) d
after-followed k c c1 d e = ap (after_mark k) e ∙ after-follow k c1.end c1.passed d

less-zero : (m : Option ℕ) → less m 0 ≡ m
less-zero None = refl
less-zero (Some m) = let e : m - 0 ≡ m = omega arith in ap Some e

pub cut-then : {H : Type 0} → (x y : Trace H) (at : Site) (b : ℕ) (m : Option ℕ) →
    cut_from (x ⨾ y) at b m ≡ followed (cut_from x at b m) (cut_from y (last_site at x) (b - tick_count x) (less m (length (events_of x))))
cut-then [] y at b m = let e : b ≡ b - 0 = omega arith in ap (λ n. cut_from y at n m) e ∙ ap (λ o. cut_from y at (b - 0) o) (sym (less-zero m))
cut-then (Tick p ∷ x) y at zero m = refl
cut-then (Tick p ∷ x) y at (suc b) m =
    let e : b - tick_count x ≡ suc b - suc (tick_count x) = omega arith in
    after-followed (Tick p) _ (cut_from x p b m) _ (cut-then x y p b m)
    ∙ ap (λ n. followed (after_mark (Tick p) (cut_from x p b m)) (cut_from y (last_site p x) n (less m (length (events_of x))))) e
cut-then (Put v ∷ x) y at b None = after-followed (Put v) _ (cut_from x at b None) _ (cut-then x y at b None)
cut-then (Put v ∷ x) y at b (Some zero) = refl
cut-then (Put v ∷ x) y at b (Some (suc m)) =
    let e : m - length (events_of x) ≡ suc m - suc (length (events_of x)) = omega arith in
    after-followed (Put v) _ (cut_from x at b (Some m)) _ (cut-then x y at b (Some m))
    ∙ ap (λ n. followed (after_mark (Put v) (cut_from x at b (Some m))) (cut_from y (last_site at x) (b - tick_count x) (Some n))) e
cut-then (Say t ∷ x) y at b m = after-followed (Say t) _ (cut_from x at b m) _ (cut-then x y at b m)
cut-then (Stop f p ∷ x) y at b m = refl
cut-then (Need g p ∷ x) y at b m = refl
cut-then (Hole k ∷ x) y at b m = after-followed (Hole k) _ (cut_from x at b m) _ (cut-then x y at b m)

pub cut-cut : {H : Type 0} → (x : Trace H) (at : Site) (b r : ℕ) (m s : Option ℕ) → r ≤ b → Within s m →
    cut_from x at r s ≡ cut_again (cut_from x at b m) at r s
cut-cut [] at b r m s le w = refl
cut-cut (Tick p ∷ x) at zero zero m s le w = refl
cut-cut (Tick p ∷ x) at zero (suc r) m s le w = absurd (omega arith)
cut-cut (Tick p ∷ x) at (suc b) zero m s le w = refl
cut-cut (Tick p ∷ x) at (suc b) (suc r) m s le w = ap (after_mark (Tick p)) (cut-cut x p b r m s (omega arith) w)
cut-cut (Put v ∷ x) at b r None None le w = ap (after_mark (Put v)) (cut-cut x at b r None None le w)
cut-cut (Put v ∷ x) at b r None (Some zero) le w = refl
cut-cut (Put v ∷ x) at b r None (Some (suc s)) le w = ap (after_mark (Put v)) (cut-cut x at b r None (Some s) le w)
cut-cut (Put v ∷ x) at b r (Some m) None le w = absurd w
cut-cut (Put v ∷ x) at b r (Some zero) (Some zero) le w = refl
cut-cut (Put v ∷ x) at b r (Some zero) (Some (suc s)) le w = absurd (omega arith)
cut-cut (Put v ∷ x) at b r (Some (suc m)) (Some zero) le w = refl
cut-cut (Put v ∷ x) at b r (Some (suc m)) (Some (suc s)) le w = ap (after_mark (Put v)) (cut-cut x at b r (Some m) (Some s) le (omega arith))
cut-cut (Say t ∷ x) at b r m s le w = ap (after_mark (Say t)) (cut-cut x at b r m s le w)
cut-cut (Stop f p ∷ x) at b r m s le w = refl
cut-cut (Need g p ∷ x) at b r m s le w = refl
cut-cut (Hole k ∷ x) at b r m s le w = ap (after_mark (Hole k)) (cut-cut x at b r m s le w)

pub cut-without-puts : {H : Type 0} → (x : Trace H) (at : Site) (b : ℕ) →
    cut_from (without_puts x) at b None ≡ record { passed = without_puts (cut_from x at b None).passed; end = (cut_from x at b None).end }
cut-without-puts [] at b = refl
cut-without-puts (Tick p ∷ x) at zero = refl
cut-without-puts (Tick p ∷ x) at (suc b) = ap (after_mark (Tick p)) (cut-without-puts x p b)
cut-without-puts (Put v ∷ x) at b = cut-without-puts x at b
cut-without-puts (Say t ∷ x) at b = ap (after_mark (Say t)) (cut-without-puts x at b)
cut-without-puts (Stop f p ∷ x) at b = refl
cut-without-puts (Need g p ∷ x) at b = refl
cut-without-puts (Hole k ∷ x) at b = ap (after_mark (Hole k)) (cut-without-puts x at b)

pub parts-join : {H : Type 0} → (x y : Trace H) → PartsJoin x y
parts-join [] y = record { ticks = omega arith; events = refl; messages = refl }
parts-join (Tick p ∷ x) y = let h : PartsJoin x y = parts-join x y in record { ticks = omega (arith, h.ticks); events = h.events; messages = h.messages }
parts-join (Put e ∷ x) y = let h : PartsJoin x y = parts-join x y in record { ticks = h.ticks; events = ap (λ l. e ∷ l) h.events; messages = h.messages }
parts-join (Say t ∷ x) y = let h : PartsJoin x y = parts-join x y in record { ticks = h.ticks; events = h.events; messages = ap (λ l. t ∷ l) h.messages }
parts-join (Stop f p ∷ x) y = let h : PartsJoin x y = parts-join x y in record { ticks = h.ticks; events = h.events; messages = h.messages }
parts-join (Need g p ∷ x) y = let h : PartsJoin x y = parts-join x y in record { ticks = h.ticks; events = h.events; messages = h.messages }
parts-join (Hole k ∷ x) y = let h : PartsJoin x y = parts-join x y in record { ticks = h.ticks; events = h.events; messages = h.messages }

ends-map : {H : Type 0} → (last : Site) (A B C D : Type 0) → (A → C) → (B → D) → (rest : Trace H) (e : End) → IsEnd last A B rest e → IsEnd last C D rest e
ends-map last A B C D f g [] e h = h
ends-map last A B C D f g (Tick p ∷ x) e h = (h.0, f h.1)
ends-map last A B C D f g (Put v ∷ x) e h = (h.0, g h.1)
ends-map last A B C D f g (Say t ∷ x) e h = h
ends-map last A B C D f g (Stop n p ∷ x) e h = h
ends-map last A B C D f g (Need n p ∷ x) e h = h
ends-map last A B C D f g (Hole k ∷ x) e h = h

allows-zero : (m : Option ℕ) → Allows m 0
allows-zero None = tt
allows-zero (Some m) = omega arith

grown : Option ℕ → Option ℕ
grown None = None
grown (Some m) = Some (suc m)

pub cut-longest : {H : Type 0} → (x : Trace H) (at : Site) (b : ℕ) (m : Option ℕ) → IsLongest x at b m (cut_from x at b m)
unfolding grown
cut-longest [] at b m = record { rest = []; whole = refl; goes_on = tt; within = omega arith; allowed = allows-zero m; next = refl }
cut-longest (Tick p ∷ x) at zero m =
    record { rest = Tick p ∷ x; whole = refl; goes_on = tt; within = omega arith; allowed = allows-zero m; next = (refl, refl) }
cut-longest (Tick p ∷ x) at (suc b) m =
    let h : IsLongest x p b m (cut_from x p b m) = cut-longest x p b m in
    record {
      rest = h.rest;
      whole = ap (λ t. Tick p ∷ t) h.whole;
      goes_on = h.goes_on;
      within = omega (arith, h.within);
      allowed = h.allowed;
      next = ends-map _ _ _ _ _ (λ q. ap (λ n. suc n) q) (λ q. q) h.rest _ h.next;
    }
cut-longest (Put v ∷ x) at b None =
    let h : IsLongest x at b None (cut_from x at b None) = cut-longest x at b None in
    record {
      rest = h.rest;
      whole = ap (λ t. Put v ∷ t) h.whole;
      goes_on = h.goes_on;
      within = h.within;
      allowed = tt;
      next = ends-map _ _ _ _ _ (λ q. q) (λ q. ap grown q) h.rest _ h.next;
    }
cut-longest (Put v ∷ x) at b (Some zero) =
    record { rest = Put v ∷ x; whole = refl; goes_on = tt; within = omega arith; allowed = omega arith; next = (refl, refl) }
cut-longest (Put v ∷ x) at b (Some (suc m)) =
    let h : IsLongest x at b (Some m) (cut_from x at b (Some m)) = cut-longest x at b (Some m) in
    record {
      rest = h.rest;
      whole = ap (λ t. Put v ∷ t) h.whole;
      goes_on = h.goes_on;
      within = h.within;
      allowed = omega (arith, h.allowed);
      next = ends-map _ _ _ _ _ (λ q. q) (λ q. ap grown q) h.rest _ h.next;
    }
cut-longest (Say t ∷ x) at b m =
    let h : IsLongest x at b m (cut_from x at b m) = cut-longest x at b m in
    record { rest = h.rest; whole = ap (λ l. Say t ∷ l) h.whole; goes_on = h.goes_on; within = h.within; allowed = h.allowed; next = h.next }
cut-longest (Stop f p ∷ x) at b m = record { rest = Stop f p ∷ x; whole = refl; goes_on = tt; within = omega arith; allowed = allows-zero m; next = refl }
cut-longest (Need g p ∷ x) at b m = record { rest = Need g p ∷ x; whole = refl; goes_on = tt; within = omega arith; allowed = allows-zero m; next = refl }
cut-longest (Hole k ∷ x) at b m =
    let h : IsLongest x at b m (cut_from x at b m) = cut-longest x at b m in
    record { rest = h.rest; whole = ap (λ l. Hole k ∷ l) h.whole; goes_on = h.goes_on; within = h.within; allowed = h.allowed; next = h.next }
