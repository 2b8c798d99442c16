-- Collections that read as good states.
use Rattle.std.proofs.Common.{◌≡◌, ◌<◌, ◌≤◌, ◌+◌, ℕ, zero, suc, List, [], ◌∷◌, ◌++◌, length, get_or, slice_get, Option, Some, None, Bool, true, false, cond}
use Rattle.std.proofs.Common.{eqb}
use Rattle.std.proofs.Common.{refl, sym, ap, subst, ◌∙◌, arith, append_assoc}
use Rattle.std.specs.List.{All, Contains}
use Rattle.std.proofs.lemmas.Bool.Decides.{nat_tests}
use Rattle.std.proofs.lemmas.List.{append-nil}
use Rattle.std.proofs.lemmas.List.Elements.{All-head, All-tail}
use Rattle.xs_trace.specs.Mark.{Tick, Put, Say, Stop, Need, Hole, Trace, ◌⨾◌, GoesOn, tick_count, events_of}
use Rattle.xs_trace.specs.Cut.{End, Whole, Fault, Needs, Spent, Full, cut_from, nowhere, cut, Allows, IsEnd}
use Rattle.xs_trace.specs.Fill.{fill, tasks_of}
use Rattle.xs_trace.specs.declared.item.Limits.{Limits}
use Rattle.xs_trace.specs.declared.item.Site.{Site}
use Rattle.xs_trace.proofs.CutLemmas.{cut-longest}
use Rattle.xs_trace.proofs.KeptLemmas.{some_same}
use Rattle.xs_core.specs.declared.piece.Progress.{Progress}
use Rattle.xs_core.specs.Good.{total, children, given_by, is_place, PiecesWithin, IsGood}
use Rattle.xs_core.proofs.ChildLemmas.{last-fewer}
use Rattle.xs_pieces.specs.Tree.{task_at, or_nothing}
use Rattle.xs_pieces.specs.Collection.{is_finished, ticks_in, holes_in, facts_of, children_in, ticks_spent, places_in, finished_in, dropped_in, state_of}
use Rattle.xs_pieces.specs.Laws.{WholeIsComplete}
use Rattle.xs_pieces.specs.declared.piece.Piece.{Piece}
use Rattle.xs_pieces.proofs.TreeLemmas.{at-child}

-- ---- a weight that finds a place

pub place-same : (p : List ℕ) → is_place p p ≡ 1
place-same [] = refl
place-same (a ∷ p) = let e : eqb a a ≡ true = grind (arith, nat_tests) in ap (λ b. cond b (is_place p p) 0) e ∙ place-same p

place-head : (a b : ℕ) (p q : List ℕ) (c : Bool) → eqb a b ≡ c → 0 < cond c (is_place p q) 0 → ((0 < is_place p q) → p ≡ q) → a ∷ p ≡ b ∷ q
place-head a b p q true e h f = let i : a ≡ b = grind (arith, nat_tests, e) in let j = f h in cc
place-head a b p q false e h f = absurd (omega (arith, h))

pub place-found : (p q : List ℕ) → 0 < is_place p q → p ≡ q
place-found [] [] h = refl
place-found [] (b ∷ q) h = absurd (omega (arith, h))
place-found (a ∷ p) [] h = absurd (omega (arith, h))
place-found (a ∷ p) (b ∷ q) h = place-head a b p q (eqb a b) refl h (place-found p q)

contains-next : {X : Type 0} → (x y : X) (xs : List X) → Contains xs y → Contains (x ∷ xs) y
contains-next x y xs c = (suc c.0, (omega (arith, c.1)), c.2)

found-at : (q x : List ℕ) (xs : List (List ℕ)) (n : ℕ) → is_place q x ≡ n → 0 < n + total (is_place q) xs → (0 < total (is_place q) xs → Contains xs q) →
    Contains (x ∷ xs) q
found-at q x xs zero e h f = contains-next x q xs (f (omega (arith, h)))
found-at q x xs (suc n) e h f = (0, (omega arith), sym (place-found q x (omega (arith, e))))

pub found : (q : List ℕ) (xs : List (List ℕ)) → 0 < total (is_place q) xs → Contains xs q
found q [] h = absurd (omega (arith, h))
found q (x ∷ xs) h = found-at q x xs (is_place q x) refl h (found q xs)

-- ---- all pieces are finished or dropped

abbrev dropped : {H : Type 0} → (place : H → List ℕ) → List (List ℕ) → Piece H → Progress
dropped place places p = record { place = place p.task; spent = ticks_spent p.outcome; given = children_in places (place p.task) }

pub all-read : {H : Type 0} → (h : List ℕ → ℕ) (place : H → List ℕ) (places : List (List ℕ)) (ps : List (Piece H)) →
    total h (finished_in place ps) + total (λ x. h x.place) (dropped_in place places ps) ≡ total h (places_in place ps)
all-read h place places [] = refl
all-read {H} h place places (p ∷ ps) = by (is_finished p.outcome) (all-read h place places ps)
  where
    by : (b : Bool) → total h (finished_in place ps) + total (λ x. h x.place) (dropped_in place places ps) ≡ total h (places_in place ps) →
        total h (cond b (place p.task ∷ finished_in place ps) (finished_in place ps)) +
        total (λ x. h x.place) (cond b (dropped_in place places ps) (dropped place places p ∷ dropped_in place places ps)) ≡
        h (place p.task) + total h (places_in place ps)
    by true e = omega arith
    by false e = omega arith

some-children : (h : List ℕ → ℕ) (p : List ℕ) (n k : ℕ) → k < n → h (p ++ k ∷ []) ≤ children h p n
some-children h p zero k l = absurd (omega (arith, l))
some-children h p (suc n) k l = by (eqb k n) refl (some-children h p n k)
  where
    by : (b : Bool) → eqb k n ≡ b → (k < n → h (p ++ k ∷ []) ≤ children h p n) → h (p ++ k ∷ []) ≤ children h p n + h (p ++ n ∷ [])
    by true e f =
        let i : k ≡ n = grind (arith, nat_tests, e) in
        let j : h (p ++ k ∷ []) ≡ h (p ++ n ∷ []) = ap (λ m. h (p ++ m ∷ [])) i in
        omega arith
    by false e f =
        let i : k < n = grind (arith, nat_tests, e, l) in
        let j = f i in
        omega arith

finished-weigh : {H : Type 0} → (f : List ℕ → ℕ) (place : H → List ℕ) (ps : List (Piece H)) (k : ℕ) (d : Piece H) → k < length ps →
    is_finished (get_or ps k d).outcome ≡ true → f (place (get_or ps k d).task) ≤ total f (finished_in place ps)
finished-weigh f place [] k d l e = absurd (omega (arith, l))
finished-weigh f place (p ∷ ps) zero d l e =
    let i : total f (finished_in place (p ∷ ps)) ≡ f (place p.task) + total f (finished_in place ps) =
    ap (λ b. total f (cond b (place p.task ∷ finished_in place ps) (finished_in place ps))) e in
    omega arith
finished-weigh f place (p ∷ ps) (suc k) d l e =
    let i = finished-weigh f place ps k d (omega (arith, l)) e in
    more (is_finished p.outcome) i
  where
    more : (b : Bool) → f (place (get_or ps k d).task) ≤ total f (finished_in place ps) →
        f (place (get_or ps k d).task) ≤ total f (cond b (place p.task ∷ finished_in place ps) (finished_in place ps))
    more true i = omega arith
    more false i = i

-- the children of a finished piece are there, and so is the root
pub child-there : {H : Type 0} → (place : H → List ℕ) (own : H → Trace H) (root : H) (l : Limits) (ps : List (Piece H)) (t : ℕ) →
    IsGood (facts_of own root l) l.ticks (state_of place ps t) → (i : ℕ) (d : Piece H) → i < length ps → is_finished (get_or ps i d).outcome ≡ true → (k : ℕ) →
    k < holes_in own l (task_at own (Some root) (place (get_or ps i d).task)) → Contains (places_in place ps) (place (get_or ps i d).task ++ k ∷ [])
child-there {H} place own root l ps t g i d lt e k b =
    let p : List ℕ = place (get_or ps i d).task in
    let q : List ℕ = p ++ k ∷ [] in
    let f : List ℕ → ℕ = λ r. children (is_place q) r (holes_in own l (task_at own (Some root) r)) in
    let c = g.counted (is_place q) in
    let r = all-read (is_place q) place (places_in place ps) ps in
    let s = some-children (is_place q) p (holes_in own l (task_at own (Some root) p)) k b in
    let u = finished-weigh f place ps i d lt e in
    let v = place-same q in
    found q (places_in place ps) (omega arith)

pub root-there : {H : Type 0} → (place : H → List ℕ) (own : H → Trace H) (root : H) (l : Limits) (ps : List (Piece H)) (t : ℕ) →
    IsGood (facts_of own root l) l.ticks (state_of place ps t) → Contains (places_in place ps) []
root-there place own root l ps t g =
    let c = g.counted (is_place []) in
    let r = all-read (is_place []) place (places_in place ps) ps in
    let v = place-same [] in
    found [] (places_in place ps) (omega arith)

-- ---- what is not finished is dropped

pub dropped-some : {H : Type 0} → (place : H → List ℕ) (places : List (List ℕ)) (ps : List (Piece H)) (k : ℕ) (d : Piece H) → k < length ps →
    is_finished (get_or ps k d).outcome ≡ false → 0 < length (dropped_in place places ps)
dropped-some place places [] k d l e = absurd (omega (arith, l))
dropped-some place places (p ∷ ps) zero d l e =
    let i : length (dropped_in place places (p ∷ ps)) ≡ suc (length (dropped_in place places ps)) =
    ap (λ b. length (cond b (dropped_in place places ps) (dropped place places p ∷ dropped_in place places ps))) e in
    omega arith
dropped-some place places (p ∷ ps) (suc k) d l e = more (is_finished p.outcome) (dropped-some place places ps k d (omega (arith, l)) e)
  where
    more : (b : Bool) → 0 < length (dropped_in place places ps) →
        0 < length (cond b (dropped_in place places ps) (dropped place places p ∷ dropped_in place places ps))
    more true i = i
    more false i = omega arith

pub missing-above : {H : Type 0} → (place : H → List ℕ) (own : H → Trace H) (root : H) (l : Limits) (ps : List (Piece H)) (t : ℕ) →
    IsGood (facts_of own root l) l.ticks (state_of place ps t) → All (λ p. is_finished p.outcome ≡ false → l.ticks < t) ps
missing-above place own root l ps t g k d h e = g.above (dropped-some place (places_in place ps) ps k d h e)

-- ---- a trace that is whole within limits

record Fits {H : Type 0} (l : Limits) (x : Trace H) : Type 0 where
  pub goes_on : GoesOn x
  pub within : tick_count x ≤ l.ticks
  pub allowed : Allows l.events (length (events_of x))

pub all-passed : {H : Type 0} → (c x rest : Trace H) (at : Site) (s f : Type 0) (e : End) → x ≡ c ++ rest → e ≡ Whole → IsEnd at s f rest e → x ≡ c
all-passed c x [] at s f e a w i = a ∙ append-none c
  where
    append-none : {X : Type 0} → (xs : List X) → xs ++ [] ≡ xs
    append-none [] = refl
    append-none (x ∷ xs) = ap (λ z. x ∷ z) (append-none xs)
all-passed c x (Tick p ∷ rest) at s f e a w i = let j : Spent p ≡ Whole = sym i.0 ∙ w in absurd (cc)
all-passed c x (Put v ∷ rest) at s f e a w i = let j : Full at ≡ Whole = sym i.0 ∙ w in absurd (cc)
all-passed c x (Say v ∷ rest) at s f e a w i = absurd i
all-passed c x (Stop n p ∷ rest) at s f e a w i = let j : Fault n p ≡ Whole = sym i ∙ w in absurd (cc)
all-passed c x (Need g p ∷ rest) at s f e a w i = let j : Needs g p ≡ Whole = sym i ∙ w in absurd (cc)
all-passed c x (Hole k ∷ rest) at s f e a w i = absurd i

fits-whole : {H : Type 0} → (l : Limits) (x : Trace H) → (cut x l.ticks l.events).end ≡ Whole → Fits l x
fits-whole {H} l x w =
    let i = cut-longest x nowhere l.ticks l.events in
    let e : x ≡ (cut x l.ticks l.events).passed = all-passed (cut x l.ticks l.events).passed x i.rest _ _ _ (cut x l.ticks l.events).end i.whole w i.next in
    subst (λ (z : Trace H). Fits l z) (sym e) (record { goes_on = i.goes_on; within = i.within; allowed = i.allowed })

fewer : (m : Option ℕ) (a b : ℕ) → a ≤ b → Allows m b → Allows m a
fewer None a b h k = tt
fewer (Some m) a b h k = omega (arith, h, k)

goes-front : {H : Type 0} → (x y : Trace H) → GoesOn (x ⨾ y) → GoesOn x
goes-front [] y h = tt
goes-front (Tick p ∷ x) y h = goes-front x y h
goes-front (Put e ∷ x) y h = goes-front x y h
goes-front (Say s ∷ x) y h = goes-front x y h
goes-front (Stop n p ∷ x) y h = h
goes-front (Need g p ∷ x) y h = h
goes-front (Hole k ∷ x) y h = goes-front x y h

goes-back : {H : Type 0} → (x y : Trace H) → GoesOn (x ⨾ y) → GoesOn y
goes-back [] y h = h
goes-back (Tick p ∷ x) y h = goes-back x y h
goes-back (Put e ∷ x) y h = goes-back x y h
goes-back (Say s ∷ x) y h = goes-back x y h
goes-back (Stop n p ∷ x) y h = absurd h
goes-back (Need g p ∷ x) y h = absurd h
goes-back (Hole k ∷ x) y h = goes-back x y h

then-ticks : {H : Type 0} → (x y : Trace H) → GoesOn x → tick_count (x ⨾ y) ≡ tick_count x + tick_count y
then-ticks [] y h = omega arith
then-ticks (Tick p ∷ x) y h = let i = then-ticks x y h in omega arith
then-ticks (Put e ∷ x) y h = then-ticks x y h
then-ticks (Say s ∷ x) y h = then-ticks x y h
then-ticks (Stop n p ∷ x) y h = absurd h
then-ticks (Need g p ∷ x) y h = absurd h
then-ticks (Hole k ∷ x) y h = then-ticks x y h

then-events : {H : Type 0} → (x y : Trace H) → GoesOn x → length (events_of (x ⨾ y)) ≡ length (events_of x) + length (events_of y)
then-events [] y h = omega arith
then-events (Tick p ∷ x) y h = then-events x y h
then-events (Put e ∷ x) y h = let i = then-events x y h in omega arith
then-events (Say s ∷ x) y h = then-events x y h
then-events (Stop n p ∷ x) y h = absurd h
then-events (Need g p ∷ x) y h = absurd h
then-events (Hole k ∷ x) y h = then-events x y h

-- the ticks and events of a filled trace that goes on
fill-goes : {H K : Type 0} → (f : H → Trace K) (x : Trace H) → GoesOn (fill f x) → GoesOn x
fill-goes f [] h = tt
fill-goes f (Tick p ∷ x) h = fill-goes f x h
fill-goes f (Put e ∷ x) h = fill-goes f x h
fill-goes f (Say s ∷ x) h = fill-goes f x h
fill-goes f (Stop n p ∷ x) h = h
fill-goes f (Need g p ∷ x) h = h
fill-goes f (Hole k ∷ x) h = fill-goes f x (goes-back (f k) (fill f x) h)

fill-ticks : {H K : Type 0} → (f : H → Trace K) (x : Trace H) → GoesOn (fill f x) →
    tick_count (fill f x) ≡ tick_count x + total (λ c. tick_count (f c)) (tasks_of x)
fill-ticks f [] h = refl
fill-ticks f (Tick p ∷ x) h = let i = fill-ticks f x h in omega arith
fill-ticks f (Put e ∷ x) h = fill-ticks f x h
fill-ticks f (Say s ∷ x) h = fill-ticks f x h
fill-ticks f (Stop n p ∷ x) h = absurd h
fill-ticks f (Need g p ∷ x) h = absurd h
fill-ticks f (Hole k ∷ x) h =
    let i = fill-ticks f x (goes-back (f k) (fill f x) h) in
    let j = then-ticks (f k) (fill f x) (goes-front (f k) (fill f x) h) in
    omega arith

fill-events : {H K : Type 0} → (f : H → Trace K) (x : Trace H) → GoesOn (fill f x) →
    length (events_of (fill f x)) ≡ length (events_of x) + total (λ c. length (events_of (f c))) (tasks_of x)
fill-events f [] h = refl
fill-events f (Tick p ∷ x) h = fill-events f x h
fill-events f (Put e ∷ x) h = let i = fill-events f x h in omega arith
fill-events f (Say s ∷ x) h = fill-events f x h
fill-events f (Stop n p ∷ x) h = absurd h
fill-events f (Need g p ∷ x) h = absurd h
fill-events f (Hole k ∷ x) h =
    let i = fill-events f x (goes-back (f k) (fill f x) h) in
    let j = then-events (f k) (fill f x) (goes-front (f k) (fill f x) h) in
    omega arith

fits-own : {H K : Type 0} → (l : Limits) (f : H → Trace K) (x : Trace H) → Fits l (fill f x) → Fits l x
fits-own l f x h =
    let t = fill-ticks f x h.goes_on in
    let e = fill-events f x h.goes_on in
    record {
      goes_on = fill-goes f x h.goes_on;
      within = omega (arith, t, h.within);
      allowed = fewer l.events (length (events_of x)) (length (events_of (fill f x))) (omega (arith, e)) h.allowed;
    }

-- each hole is filled by what fits
fits-holes : {H K : Type 0} → (l : Limits) (f : H → Trace K) (x : Trace H) → Fits l (fill f x) → (k : ℕ) (c : H) → slice_get (tasks_of x) k ≡ Some c →
    Fits l (f c)
fits-holes l f [] h k c e = absurd (cc)
fits-holes l f (Tick p ∷ x) h k c e = fits-holes l f x (record { goes_on = h.goes_on; within = omega (arith, h.within); allowed = h.allowed }) k c e
fits-holes l f (Put v ∷ x) h k c e =
    fits-holes l f x (record {
      goes_on = h.goes_on;
      within = h.within;
      allowed =
          fewer l.events (length (events_of (fill f x))) (suc (length (events_of (fill f x)))) (omega arith) h.allowed;
    }) k c e
fits-holes l f (Say s ∷ x) h k c e = fits-holes l f x (record { goes_on = h.goes_on; within = h.within; allowed = h.allowed }) k c e
fits-holes l f (Stop n p ∷ x) h k c e = absurd h.goes_on
fits-holes l f (Need g p ∷ x) h k c e = absurd h.goes_on
fits-holes {H} {K} l f (Hole j ∷ x) h zero c e =
    let i : j ≡ c = cc in
    let g = goes-front (f j) (fill f x) h.goes_on in
    let t = then-ticks (f j) (fill f x) g in
    let v = then-events (f j) (fill f x) g in
    subst (λ (z : H). Fits {H = K} l (f z)) i (record {
      goes_on = g;
      within = omega (arith, t, h.within);
      allowed = fewer l.events (length (events_of (f j))) (length (events_of (f j ⨾ fill f x))) (omega (arith, v)) h.allowed;
    })
fits-holes l f (Hole j ∷ x) h (suc k) c e =
    let g = goes-front (f j) (fill f x) h.goes_on in
    let t = then-ticks (f j) (fill f x) g in
    let v = then-events (f j) (fill f x) g in
    fits-holes l f x (record {
      goes_on = goes-back (f j) (fill f x) h.goes_on;
      within = omega (arith, t, h.within);
      allowed = fewer l.events (length (events_of (fill f x))) (length (events_of (f j ⨾ fill f x))) (omega (arith, v)) h.allowed;
    }) k c e

cut-all : {H : Type 0} → (x : Trace H) (at : Site) (b : ℕ) (m : Option ℕ) → GoesOn x → tick_count x ≤ b → Allows m (length (events_of x)) →
    (cut_from x at b m).passed ≡ x
cut-all [] at b m g h k = refl
cut-all (Tick p ∷ x) at zero m g h k = absurd (omega (arith, h))
cut-all (Tick p ∷ x) at (suc b) m g h k = ap (λ z. Tick p ∷ z) (cut-all x p b m g (omega (arith, h)) k)
cut-all (Put e ∷ x) at b None g h k = ap (λ z. Put e ∷ z) (cut-all x at b None g h k)
cut-all (Put e ∷ x) at b (Some zero) g h k = absurd (omega (arith, k))
cut-all (Put e ∷ x) at b (Some (suc m)) g h k = ap (λ z. Put e ∷ z) (cut-all x at b (Some m) g h (omega (arith, k)))
cut-all (Say s ∷ x) at b m g h k = ap (λ z. Say s ∷ z) (cut-all x at b m g h k)
cut-all (Stop n p ∷ x) at b m g h k = absurd g
cut-all (Need v p ∷ x) at b m g h k = absurd g
cut-all (Hole c ∷ x) at b m g h k = ap (λ z. Hole c ∷ z) (cut-all x at b m g h k)

-- ---- the tree at each place fits

module _ {H : Type 0} (own whole : H → Trace H) (fills : (t : H) → whole t ≡ fill whole (own t)) (l : Limits) where
  fits-at : (r : Option H) (q : List ℕ) (t : H) → ((s : H) → r ≡ Some s → Fits l (whole s)) → task_at own r q ≡ Some t → Fits l (whole t)
  fits-at r [] t h e = h t e
  fits-at None (k ∷ q) t h e = absurd (cc)
  fits-at (Some s) (k ∷ q) t h e =
      fits-at (slice_get (tasks_of (own s)) k) q t
      (λ c i. fits-holes l whole (own s) (subst (λ (z : Trace H). Fits l z) (fills s) (h s refl)) k c i) e

  -- the ticks of the tree at a place, as a weight
  abbrev weight : H → List ℕ → ℕ
  weight root p = tick_count (or_nothing whole (task_at own (Some root) p))

  children-weigh : (root : H) (p : List ℕ) (n : ℕ) (ts : List H) → ((k : ℕ) → task_at own (Some root) (p ++ (n + k) ∷ []) ≡ slice_get ts k) →
      children (weight root) p (n + length ts) ≡ children (weight root) p n + total (λ c. tick_count (whole c)) ts
  children-weigh root p n [] e = let i : n + 0 ≡ n = omega arith in
      let j : children (weight root) p (n + 0) ≡ children (weight root) p n = ap (children (weight root) p) i in omega arith
  children-weigh root p n (t ∷ ts) e =
      let z : n + 0 ≡ n = omega arith in
      let s : (k : ℕ) → suc n + k ≡ n + suc k = λ k. omega arith in
      let a = children-weigh root p (suc n) ts (λ k. ap (λ j. task_at own (Some root) (p ++ j ∷ [])) (s k) ∙ e (suc k)) in
      let b : children (weight root) p (n + suc (length ts)) ≡ children (weight root) p (suc n + length ts) =
      ap (children (weight root) p) (sym (s (length ts))) in
      let c : weight root (p ++ n ∷ []) ≡ tick_count (whole t) = ap (λ j. weight root (p ++ j ∷ [])) (sym z)
      ∙ ap (λ (o : Option H). tick_count (or_nothing whole o)) (e 0) in
      omega arith

  -- a tree that fits: its ticks are those of its piece, and those of the trees below it
  weighs : (root t : H) (p : List ℕ) → task_at own (Some root) p ≡ Some t → Fits l (whole t) →
      weight root p ≡ ticks_in own l (task_at own (Some root) p) + children (weight root) p (holes_in own l (task_at own (Some root) p))
  weighs root t p e h =
      let f = subst (λ (z : Trace H). Fits l z) (fills t) h in
      let o = fits-own l whole (own t) f in
      let c : (cut (own t) l.ticks l.events).passed ≡ own t = cut-all (own t) nowhere l.ticks l.events o.goes_on o.within o.allowed in
      let a : weight root p ≡ tick_count (fill whole (own t)) = ap (λ (z : Option H). tick_count (or_nothing whole z)) e ∙ ap tick_count (fills t) in
      let b = fill-ticks whole (own t) f.goes_on in
      let i : ticks_in own l (task_at own (Some root) p) ≡ tick_count (own t) = ap (ticks_in own l) e ∙ ap tick_count c in
      let j : holes_in own l (task_at own (Some root) p) ≡ length (tasks_of (own t)) = ap (holes_in own l) e ∙ ap (λ (z : Trace H). length (tasks_of z)) c in
      let z : (k : ℕ) → 0 + k ≡ k = λ k. omega arith in
      let n = children-weigh root p 0 (tasks_of (own t))
      (λ k. at-child own (Some root) p (0 + k) ∙ ap (λ (x : Option H). task_at own x ((0 + k) ∷ [])) e ∙ ap (slice_get (tasks_of (own t))) (z k)) in
      let y : children (weight root) p (holes_in own l (task_at own (Some root) p)) ≡ children (weight root) p (0 + length (tasks_of (own t))) =
      ap (children (weight root) p) (j ∙ sym (z (length (tasks_of (own t))))) in
      omega arith

  module _ (place : H → List ℕ) (root : H) (fit : Fits l (whole root)) where
    -- each piece and its children weigh no more than the tree at its place
    all-weigh : (places : List (List ℕ)) (ps : List (Piece H)) → All (λ p. task_at own (Some root) (place p.task) ≡ Some p.task) ps →
        PiecesWithin (facts_of own root l) (dropped_in place places ps) →
        (total (λ p. ticks_in own l (task_at own (Some root) p)) (finished_in place ps) + total (λ x. x.spent) (dropped_in place places ps))
        + (total (λ p. children (weight root) p (holes_in own l (task_at own (Some root) p))) (finished_in place ps)
        + total (given_by (weight root) (facts_of own root l)) (dropped_in place places ps))
        ≤ total (weight root) (finished_in place ps) + total (λ x. weight root x.place) (dropped_in place places ps)
    all-weigh places [] a w = omega arith
    all-weigh places (p ∷ ps) a w = by (is_finished p.outcome) (all-weigh places ps (All-tail (λ p. task_at own (Some root) (place p.task) ≡
        Some p.task) p ps a)) w
      where
        q : List ℕ
        q = place p.task

        at : task_at own (Some root) (place p.task) ≡ Some p.task
        at = All-head (λ p. task_at own (Some root) (place p.task) ≡ Some p.task) p ps a

        here : weight root (place p.task) ≡ ticks_in own l (task_at own (Some root) (place p.task)) + children (weight root) (place p.task)
            (holes_in own l (task_at own (Some root) (place p.task)))
        here = weighs root p.task (place p.task) at (fits-at (Some root) (place p.task) p.task (λ s i. subst (λ (z : H). Fits l (whole z))
            (some_same i) fit) at)

        by : (b : Bool) →
            (PiecesWithin (facts_of own root l) (dropped_in place places ps) →
            (total (λ p. ticks_in own l (task_at own (Some root) p)) (finished_in place ps) + total (λ x. x.spent) (dropped_in place places ps))
            + (total (λ p. children (weight root) p (holes_in own l (task_at own (Some root) p))) (finished_in place ps)
            + total (given_by (weight root) (facts_of own root l)) (dropped_in place places ps))
            ≤ total (weight root) (finished_in place ps) + total (λ x. weight root x.place) (dropped_in place places ps)) →
            PiecesWithin (facts_of own root l) (cond b (dropped_in place places ps) (dropped place places p ∷ dropped_in place places ps)) →
            (total (λ p. ticks_in own l (task_at own (Some root) p)) (cond b (place p.task ∷ finished_in place ps) (finished_in place ps))
            + total (λ (x : Progress). x.spent) (cond b (dropped_in place places ps) (dropped place places p ∷ dropped_in place places ps)))
            + (total (λ p. children (weight root) p (holes_in own l (task_at own (Some root) p))) (cond b (place p.task ∷ finished_in place ps)
            (finished_in place ps))
            + total (given_by (weight root) (facts_of own root l)) (cond b (dropped_in place places ps)
            (dropped place places p ∷ dropped_in place places ps)))
            ≤ total (weight root) (cond b (place p.task ∷ finished_in place ps) (finished_in place ps))
            + total (λ (x : Progress). weight root x.place) (cond b (dropped_in place places ps) (dropped place places p ∷ dropped_in place places ps))
        by true f w = let i = f w in let j = here in omega arith
        by false f w =
            let i = f w.1 in
            let j = here in
            let s = w.0.spent in
            let g = last-fewer (weight root) (place p.task) (holes_in own l (task_at own (Some root) (place p.task))) (children_in places (place p.task)) in
            omega arith

    total-fits : (ps : List (Piece H)) (t : ℕ) → All (λ p. task_at own (Some root) (place p.task) ≡ Some p.task) ps →
        IsGood (facts_of own root l) l.ticks (state_of place ps t) → t ≤ l.ticks
    total-fits ps t a g =
        let w = all-weigh (places_in place ps) ps a g.dropped in
        let c = g.counted (weight root) in
        let s = g.summed in
        let f = fit.within in
        omega arith

-- ---- each place of the tree is there

none-below : {H : Type 0} → (own : H → Trace H) (p : List ℕ) (t : H) → task_at own None p ≡ Some t → ⊥
none-below own [] t e = absurd (cc)
none-below own (k ∷ p) t e = absurd (cc)

got : {H : Type 0} → (xs : List H) (k : ℕ) (c : H) → slice_get xs k ≡ Some c → k < length xs
got [] k c e = absurd (cc)
got (x ∷ xs) zero c e = omega arith
got (x ∷ xs) (suc k) c e = let i = got xs k c e in omega arith

pub at-place : {H : Type 0} → (place : H → List ℕ) (ps : List (Piece H)) (k : ℕ) (q : List ℕ) → k < length (places_in place ps) →
    get_or (places_in place ps) k q ≡ q → (d : Piece H) × (k < length ps) × (place (get_or ps k d).task ≡ q)
at-place place [] k q h e = absurd (omega (arith, h))
at-place place (p ∷ ps) zero q h e = (p, omega arith, e)
at-place place (p ∷ ps) (suc k) q h e =
    let r = at-place place ps k q (omega (arith, h)) e in
    (r.0, omega (arith, r.1), r.2)

module _ {H : Type 0} (place : H → List ℕ) (own whole : H → Trace H) (fills : (t : H) → whole t ≡ fill whole (own t)) (root : H) (l : Limits)
    (ps : List (Piece H)) (t : ℕ) (good : IsGood (facts_of own root l) l.ticks (state_of place ps t)) (all : All (λ p. is_finished p.outcome ≡ true) ps) where
  child-is-there : (q : List ℕ) (x : H) (k : ℕ) (c : H) → task_at own (Some root) q ≡ Some x → Contains (places_in place ps) q → Fits l (whole x) →
      slice_get (tasks_of (own x)) k ≡ Some c → Contains (places_in place ps) (q ++ k ∷ [])
  child-is-there q x k c is there fits e =
      let r = at-place place ps there.0 q there.1 there.2 in
      let f = fits-own l whole (own x) (subst (λ (z : Trace H). Fits l z) (fills x) fits) in
      let n : holes_in own l (task_at own (Some root) (place (get_or ps there.0 r.0).task)) ≡ length (tasks_of (own x)) =
      ap (λ (p : List ℕ). holes_in own l (task_at own (Some root) p)) r.2 ∙ ap (holes_in own l) is
      ∙ ap (λ (z : Trace H). length (tasks_of z)) (cut-all (own x) nowhere l.ticks l.events f.goes_on f.within f.allowed) in
      let i = got (tasks_of (own x)) k c e in
      subst (λ (p : List ℕ). Contains (places_in place ps) (p ++ k ∷ [])) r.2
      (child-there place own root l ps t good there.0 r.0 r.1 (all there.0 r.0 r.1) k (omega (arith, i, n)))

  below-is-there : (q : List ℕ) (x : H) → task_at own (Some root) q ≡ Some x → Contains (places_in place ps) q → Fits l (whole x) → (p : List ℕ) (y : H) →
      task_at own (Some x) p ≡ Some y → Contains (places_in place ps) (q ++ p)
  below-is-there q x is there fits [] y e = subst (λ (p : List ℕ). Contains (places_in place ps) p) (sym (append-nil q)) there
  below-is-there q x is there fits (k ∷ p) y e =
      by (slice_get (tasks_of (own x)) k) refl e
      (λ c is there fits e. below-is-there (q ++ k ∷ []) c is there fits p y e)
    where
      by : (o : Option H) → slice_get (tasks_of (own x)) k ≡ o → task_at own o p ≡ Some y →
          ((c : H) → task_at own (Some root) (q ++ k ∷ []) ≡ Some c → Contains (places_in place ps) (q ++ k ∷ []) → Fits l (whole c) →
          task_at own (Some c) p ≡ Some y → Contains (places_in place ps) ((q ++ k ∷ []) ++ p)) →
          Contains (places_in place ps) (q ++ k ∷ p)
      by None g e below = absurd (none-below own p y e)
      by (Some c) g e below =
          subst (λ (z : List ℕ). Contains (places_in place ps) z) (append_assoc q (k ∷ []) p)
          (below c (at-child own (Some root) q k ∙ ap (λ (o : Option H). task_at own o (k ∷ [])) is ∙ g)
          (child-is-there q x k c is there fits g)
          (fits-holes l whole (own x) (subst (λ (z : Trace H). Fits l z) (fills x) fits) k c g) e)

-- ---- the total, where all are finished

all-finished : {H : Type 0} → (place : H → List ℕ) (places : List (List ℕ)) (ps : List (Piece H)) → All (λ p. is_finished p.outcome ≡ true) ps →
    (finished_in place ps ≡ places_in place ps) × (dropped_in place places ps ≡ [])
all-finished place places [] a = (refl, refl)
all-finished {H} place places (p ∷ ps) a =
    let e = All-head (λ (x : Piece H). is_finished x.outcome ≡ true) p ps a in
    let i = all-finished place places ps (All-tail (λ (x : Piece H). is_finished x.outcome ≡ true) p ps a) in (
      ap (λ b. cond b (place p.task ∷ finished_in place ps) (finished_in place ps)) e ∙ ap (λ (z : List (List ℕ)). place p.task ∷ z) i.0,
      ap (λ b. cond b (dropped_in place places ps) (dropped place places p ∷ dropped_in place places ps)) e ∙ i.1,
    )

module _ {H : Type 0} (own whole : H → Trace H) (fills : (t : H) → whole t ≡ fill whole (own t)) (l : Limits) (place : H → List ℕ) (root : H)
    (fit : Fits l (whole root)) where
  pieces-weigh : (ps : List (Piece H)) → All (λ p. task_at own (Some root) (place p.task) ≡ Some p.task) ps →
      total (λ p. ticks_in own l (task_at own (Some root) p)) (places_in place ps)
      + total (λ p. children (weight own whole fills l root) p (holes_in own l (task_at own (Some root) p))) (places_in place ps)
      ≡ total (weight own whole fills l root) (places_in place ps)
  pieces-weigh [] a = omega arith
  pieces-weigh (p ∷ ps) a =
      let i = pieces-weigh ps (All-tail (λ p. task_at own (Some root) (place p.task) ≡ Some p.task) p ps a) in
      let at : task_at own (Some root) (place p.task) ≡ Some p.task = All-head (λ p. task_at own (Some root) (place p.task) ≡ Some p.task) p ps a in
      let here = weighs own whole fills l root p.task (place p.task) at
      (fits-at own whole fills l (Some root) (place p.task) p.task (λ s i. subst (λ (z : H). Fits l (whole z)) (some_same i) fit) at) in
      omega arith

  total-is : (ps : List (Piece H)) (t : ℕ) → All (λ p. task_at own (Some root) (place p.task) ≡ Some p.task) ps →
      IsGood (facts_of own root l) l.ticks (state_of place ps t) → All (λ p. is_finished p.outcome ≡ true) ps → t ≡ tick_count (whole root)
  total-is ps t tasks g all =
      let e = all-finished place (places_in place ps) ps all in
      let w = pieces-weigh ps tasks in
      let c = g.counted (weight own whole fills l root) in
      let s = g.summed in
      let a = ap (total (weight own whole fills l root)) e.0 in
      let b = ap (total (λ p. children (weight own whole fills l root) p (holes_in own l (task_at own (Some root) p)))) e.0 in
      let d = ap (total (λ p. ticks_in own l (task_at own (Some root) p))) e.0 in
      let f = ap (total (λ (x : Progress). weight own whole fills l root x.place)) e.1 in
      let h = ap (total (given_by (weight own whole fills l root) (facts_of own root l))) e.1 in
      let k = ap (total (λ (x : Progress). x.spent)) e.1 in
      omega arith

pub whole-is-complete : (H : Type 0) → WholeIsComplete H
whole-is-complete H place own whole fills root l ps t tasks good w =
    let fit = fits-whole l (whole root) w in
    let le = total-fits own whole fills l place root fit ps t tasks good in
    let all : All (λ p. is_finished p.outcome ≡ true) ps = λ k d h.
    finished (is_finished (get_or ps k d).outcome) (λ e. let a = missing-above place own root l ps t good k d h e in omega (arith, a, le)) in record {
      within = le;
      ticks = total-is own whole fills l place root fit ps t tasks good all;
      finished = all;
      there = λ p x e. below-is-there place own whole fills root l ps t good all [] root refl (root-there place own root l ps t good) fit p x e;
    }
  where
    finished : (b : Bool) → (b ≡ false → ⊥) → b ≡ true
    finished true f = refl
    finished false f = absurd (f refl)
