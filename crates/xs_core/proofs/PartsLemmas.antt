-- A change of one seat is the change of the state that the machine as a function makes.
use Rattle.std.proofs.Common.{◌≡◌, ◌<◌, ◌+◌, ◌++◌, ℕ, zero, suc, List, [], ◌∷◌, length, slice_get, get_or, set}
use Rattle.std.proofs.Common.{Option, Some, None, Bool, true, false, cond, nat_lt, Result, Ok, Err}
use Rattle.std.proofs.Common.{refl, sym, ap, subst, ◌∙◌, arith}
use Rattle.std.proofs.lemmas.Bool.Decides.{nat_tests}
use Rattle.xs_core.specs.declared.piece.Progress.{Progress}
use Rattle.xs_core.specs.Machine.{Place, Worker, State, with, with_total, with_finished, with_dropped}
use Rattle.xs_core.specs.steps.Parts.{IsChanged, Changes, IsLetGo, lifted, IsFirst, IsPopped, IsPoppedBy}
use Rattle.xs_core.specs.steps.Stepped.{at_worker, put, put_total, put_finished, put_dropped}

-- ---- the seat of a worker

pub there : {X : Type 0} → (xs : List X) (i : ℕ) (x : X) → i < length xs → x ≡ get_or xs i x → slice_get xs i ≡ Some x
there [] i x h e = absurd (omega (arith, h))
there (y ∷ xs) zero x h e = ap Some (sym e)
there (y ∷ xs) (suc i) x h e = there xs i x (omega (arith, h)) e

set-same : {X : Type 0} → (xs : List X) (i : ℕ) (x : X) → slice_get xs i ≡ Some x → set xs i x ≡ xs
set-same [] i x e = refl
set-same (y ∷ xs) zero x e = cc
set-same (y ∷ xs) (suc i) x e = ap (λ t. y ∷ t) (set-same xs i x e)

with-same : (v : State) (w : ℕ) (x y : Worker) → slice_get v.workers w ≡ Some x → y ≡ x → with w y.deque y.hand v ≡ v
with-same v w x y at e =
    ap (λ (z : Worker). with w z.deque z.hand v) e
    ∙ ap (λ (ws : List Worker). record { workers = ws; finished = v.finished; dropped = v.dropped; total = v.total }) (set-same v.workers w x at)

-- ---- a worker that changes by itself

put-by : (o : Option Worker) (v : State) (w : ℕ) (x y : Worker) (b : Bool) → slice_get v.workers w ≡ Some x → IsChanged o b x y
    → IsChanged (put w v o) b v (with w y.deque y.hand v)
put-by None v w x y b at i = (i.0, with-same v w x y at i.1)
put-by (Some z) v w x y b at i = (i.0, ap (λ (z : Worker). with w z.deque z.hand v) i.1)

put-there : (g : Worker → Option Worker) (v : State) (w : ℕ) (x y : Worker) (b : Bool) → slice_get v.workers w ≡ Some x → IsChanged (g x) b x y
    → IsChanged (at_worker (slice_get v.workers w) (λ x. put w v (g x))) b v (with w y.deque y.hand v)
put-there g v w x y b at i =
    subst (λ (o : Option Worker). IsChanged (at_worker o (λ x. put w v (g x))) b v (with w y.deque y.hand v)) (sym at) (put-by (g x) v w x y b at i)

pub put-seen : (g : Worker → Option Worker) (s v : State) (w : ℕ) (x y : Worker) (b : Bool) → v ≡ s → w < length v.workers
    → x ≡ get_or v.workers w x → IsChanged (g x) b x y
    → IsChanged (at_worker (slice_get s.workers w) (λ x. put w s (g x))) b s (with w y.deque y.hand v)
put-seen g s v w x y b e h get i =
    subst (λ (z : State). IsChanged (at_worker (slice_get z.workers w) (λ x. put w z (g x))) b z (with w y.deque y.hand v)) e
    (put-there g v w x y b (there v.workers w x h get) i)

pub puts-seen : {E : Type 0} → (g : Worker → Option Worker) (s v : State) (w : ℕ) (x y : Worker) (r : Result Bool E) → v ≡ s → w < length v.workers
    → x ≡ get_or v.workers w x → Changes (g x) r x y
    → Changes (at_worker (slice_get s.workers w) (λ x. put w s (g x))) r s (with w y.deque y.hand v)
puts-seen g s v w x y (Ok b) e h get i = put-seen g s v w x y b e h get i
puts-seen g s v w x y (Err k) e h get i = with-same v w x y (there v.workers w x h get) i ∙ e

-- ---- ticks that are spent

total-yes-by : (o : Option Worker) (v : State) (w n : ℕ) (x y : Worker) → IsChanged o true x y
    → IsChanged (put_total n (put w v o)) true v (with_total (v.total + n) (with w y.deque y.hand v))
total-yes-by None v w n x y i = absurd (cc)
total-yes-by (Some z) v w n x y i = (refl, ap (λ (z : Worker). with_total (v.total + n) (with w z.deque z.hand v)) i.1)

total-no-by : (o : Option Worker) (v : State) (w n : ℕ) (x y : Worker) → slice_get v.workers w ≡ Some x → IsChanged o false x y
    → IsChanged (put_total n (put w v o)) false v (with w y.deque y.hand v)
total-no-by None v w n x y at i = (refl, with-same v w x y at i.1)
total-no-by (Some z) v w n x y at i = absurd (cc)

pub total-yes : (g : Worker → Option Worker) (s v : State) (w n : ℕ) (x y : Worker) (b : Bool) → v ≡ s → w < length v.workers
    → x ≡ get_or v.workers w x → b ≡ true → IsChanged (g x) b x y
    → IsChanged (at_worker (slice_get s.workers w) (λ x. put_total n (put w s (g x)))) true s (with_total (v.total + n) (with w y.deque y.hand v))
total-yes g s v w n x y b e h get is i =
    subst (λ (z : State). IsChanged (at_worker (slice_get z.workers w) (λ x. put_total n (put w z (g x)))) true z
    (with_total (v.total + n) (with w y.deque y.hand v))) e
    (subst (λ (o : Option Worker). IsChanged (at_worker o (λ x. put_total n (put w v (g x)))) true v (with_total (v.total + n) (with w y.deque y.hand v)))
    (sym (there v.workers w x h get))
    (total-yes-by (g x) v w n x y (subst (λ (c : Bool). IsChanged (g x) c x y) is i)))

pub total-no : (g : Worker → Option Worker) (s v : State) (w n : ℕ) (x y : Worker) (b : Bool) → v ≡ s → w < length v.workers
    → x ≡ get_or v.workers w x → b ≡ false → IsChanged (g x) b x y
    → IsChanged (at_worker (slice_get s.workers w) (λ x. put_total n (put w s (g x)))) false s (with w y.deque y.hand v)
total-no g s v w n x y b e h get is i =
    subst (λ (z : State). IsChanged (at_worker (slice_get z.workers w) (λ x. put_total n (put w z (g x)))) false z (with w y.deque y.hand v)) e
    (subst (λ (o : Option Worker). IsChanged (at_worker o (λ x. put_total n (put w v (g x)))) false v (with w y.deque y.hand v))
    (sym (there v.workers w x h get))
    (total-no-by (g x) v w n x y (there v.workers w x h get) (subst (λ (c : Bool). IsChanged (g x) c x y) is i)))

-- ---- a piece that is finished

finished-by : (o : Option Progress) (v : State) (w : ℕ) (x y : Worker) (h : Progress) → IsLetGo (lifted x.deque o) (Some h) x y
    → IsChanged (put_finished w x.deque v o) true v (with_finished h.place (with w y.deque y.hand v))
finished-by None v w x y h i = absurd (let e = i.0 in cc)
finished-by (Some k) v w x y h i =
    let same : h ≡ k = let e = i.0 in cc in
    (refl, ap (λ (z : Worker). with_finished h.place (with w z.deque z.hand v)) i.1 ∙ ap (λ (j : Progress). with_finished j.place (with w x.deque None v)) same)

not-finished-by : (o : Option Progress) (v : State) (w : ℕ) (x y : Worker) → slice_get v.workers w ≡ Some x → IsLetGo (lifted x.deque o) None x y
    → IsChanged (put_finished w x.deque v o) false v (with w y.deque y.hand v)
not-finished-by None v w x y at i = (refl, with-same v w x y at i.1)
not-finished-by (Some k) v w x y at i = absurd (let e = i.0 in cc)

pub finished-seen : (g : Option Progress → Option Progress) (s v : State) (w : ℕ) (x y : Worker) (r : Option Progress) (h : Progress) (fs : List Place) → v ≡ s
    → w < length v.workers → x ≡ get_or v.workers w x → r ≡ Some h → fs ≡ v.finished ++ h.place ∷ [] → IsLetGo (lifted x.deque (g x.hand)) r x y
    → IsChanged (at_worker (slice_get s.workers w) (λ x. put_finished w x.deque s (g x.hand))) true s
    (record { workers = set v.workers w y; finished = fs; dropped = v.dropped; total = v.total })
finished-seen g s v w x y r h fs e lt get is more i =
    subst (λ (t : List Place). IsChanged (at_worker (slice_get s.workers w) (λ x. put_finished w x.deque s (g x.hand))) true s
    (record { workers = set v.workers w y; finished = t; dropped = v.dropped; total = v.total })) (sym more)
    (subst (λ (z : State). IsChanged (at_worker (slice_get z.workers w) (λ x. put_finished w x.deque z (g x.hand))) true z
    (with_finished h.place (with w y.deque y.hand v))) e
    (subst (λ (o : Option Worker). IsChanged (at_worker o (λ x. put_finished w x.deque v (g x.hand))) true v (with_finished h.place (with w y.deque y.hand v)))
    (sym (there v.workers w x lt get))
    (finished-by (g x.hand) v w x y h (subst (λ (q : Option Progress). IsLetGo (lifted x.deque (g x.hand)) q x y) is i))))

pub not-finished-seen : (g : Option Progress → Option Progress) (s v : State) (w : ℕ) (x y : Worker) (r : Option Progress) → v ≡ s
    → w < length v.workers → x ≡ get_or v.workers w x → r ≡ None → IsLetGo (lifted x.deque (g x.hand)) r x y
    → IsChanged (at_worker (slice_get s.workers w) (λ x. put_finished w x.deque s (g x.hand))) false s (with w y.deque y.hand v)
not-finished-seen g s v w x y r e lt get is i =
    subst (λ (z : State). IsChanged (at_worker (slice_get z.workers w) (λ x. put_finished w x.deque z (g x.hand))) false z (with w y.deque y.hand v)) e
    (subst (λ (o : Option Worker). IsChanged (at_worker o (λ x. put_finished w x.deque v (g x.hand))) false v (with w y.deque y.hand v))
    (sym (there v.workers w x lt get))
    (not-finished-by (g x.hand) v w x y (there v.workers w x lt get) (subst (λ (q : Option Progress). IsLetGo (lifted x.deque (g x.hand)) q x y) is i)))

-- ---- a piece that is dropped

over-then : (b : ℕ) (s n : State) (c : Bool) (o : Option State) → b < s.total → IsChanged o c s n → IsChanged (cond (nat_lt b s.total) o None) c s n
over-then b s n c o over i =
    let e : true ≡ nat_lt b s.total = grind (arith, nat_tests, over) in
    subst (λ (t : Bool). IsChanged (cond t o None) c s n) e i

dropped-by : (o : Option (Progress × Worker)) (v : State) (w : ℕ) (x y : Worker) (h : Progress) → IsLetGo o (Some h) x y
    → IsChanged (put_dropped w v o) true v (with_dropped h (with w y.deque y.hand v))
dropped-by None v w x y h i = absurd (let e = i.0 in cc)
dropped-by (Some gone) v w x y h i =
    let same : h ≡ gone.0 = let e = i.0 in cc in
    (refl, ap (λ (z : Worker). with_dropped h (with w z.deque z.hand v)) i.1 ∙ ap (λ (j : Progress). with_dropped j (with w gone.1.deque gone.1.hand v)) same)

not-dropped-by : (o : Option (Progress × Worker)) (v : State) (w : ℕ) (x y : Worker) → slice_get v.workers w ≡ Some x → IsLetGo o None x y
    → IsChanged (put_dropped w v o) false v (with w y.deque y.hand v)
not-dropped-by None v w x y at i = (refl, with-same v w x y at i.1)
not-dropped-by (Some gone) v w x y at i = absurd (let e = i.0 in cc)

pub dropped-seen : (g : Worker → Option (Progress × Worker)) (b : ℕ) (s v : State) (w : ℕ) (x y : Worker) (r : Option Progress) (h : Progress)
    (ds : List Progress) → v ≡ s → b < v.total → w < length v.workers → x ≡ get_or v.workers w x → r ≡ Some h → ds ≡ v.dropped ++ h ∷ [] → IsLetGo (g x) r x y
    → IsChanged (cond (nat_lt b s.total) (at_worker (slice_get s.workers w) (λ x. put_dropped w s (g x))) None) true s
    (record { workers = set v.workers w y; finished = v.finished; dropped = ds; total = v.total })
dropped-seen g b s v w x y r h ds e over lt get is more i =
    subst (λ (t : List Progress). IsChanged (cond (nat_lt b s.total) (at_worker (slice_get s.workers w) (λ x. put_dropped w s (g x))) None) true s
    (record { workers = set v.workers w y; finished = v.finished; dropped = t; total = v.total })) (sym more)
    (subst (λ (z : State). IsChanged (cond (nat_lt b z.total) (at_worker (slice_get z.workers w) (λ x. put_dropped w z (g x))) None) true z
    (with_dropped h (with w y.deque y.hand v))) e
    (over-then b v (with_dropped h (with w y.deque y.hand v)) true (at_worker (slice_get v.workers w) (λ x. put_dropped w v (g x))) over
    (subst (λ (o : Option Worker). IsChanged (at_worker o (λ x. put_dropped w v (g x))) true v (with_dropped h (with w y.deque y.hand v)))
    (sym (there v.workers w x lt get))
    (dropped-by (g x) v w x y h (subst (λ (q : Option Progress). IsLetGo (g x) q x y) is i)))))

pub not-dropped-seen : (g : Worker → Option (Progress × Worker)) (b : ℕ) (s v : State) (w : ℕ) (x y : Worker) (r : Option Progress)
    → v ≡ s → b < v.total → w < length v.workers → x ≡ get_or v.workers w x → r ≡ None → IsLetGo (g x) r x y
    → IsChanged (cond (nat_lt b s.total) (at_worker (slice_get s.workers w) (λ x. put_dropped w s (g x))) None) false s (with w y.deque y.hand v)
not-dropped-seen g b s v w x y r e over lt get is i =
    subst (λ (z : State). IsChanged (cond (nat_lt b z.total) (at_worker (slice_get z.workers w) (λ x. put_dropped w z (g x))) None) false z
    (with w y.deque y.hand v)) e
    (over-then b v (with w y.deque y.hand v) false (at_worker (slice_get v.workers w) (λ x. put_dropped w v (g x))) over
    (subst (λ (o : Option Worker). IsChanged (at_worker o (λ x. put_dropped w v (g x))) false v (with w y.deque y.hand v))
    (sym (there v.workers w x lt get))
    (not-dropped-by (g x) v w x y (there v.workers w x lt get) (subst (λ (q : Option Progress). IsLetGo (g x) q x y) is i))))

-- ---- a place that is taken out of a deque

popped-by : (r : Option Place) (v : State) (w : ℕ) (x y : Worker) → slice_get v.workers w ≡ Some x → IsFirst x.deque r y.deque → y.hand ≡ x.hand
    → IsPoppedBy w x v r (with w y.deque y.hand v)
popped-by None v w x y at i hand =
    (i.0, ap (λ (ps : List Place). with w ps y.hand v) (i.1 ∙ sym i.0) ∙ ap (λ (h : Option Progress). with w x.deque h v) hand ∙ with-same v w x x at refl)
popped-by (Some p) v w x y at i hand = (y.deque, i, ap (λ (h : Option Progress). with w y.deque h v) hand)

pub popped-seen : (s v : State) (w : ℕ) (x y : Worker) (r : Option Place) → v ≡ s → w < length v.workers → x ≡ get_or v.workers w x
    → IsFirst x.deque r y.deque → y.hand ≡ x.hand → IsPopped w (slice_get s.workers w) s r (with w y.deque y.hand v)
popped-seen s v w x y r e lt get i hand =
    subst (λ (z : State). IsPopped w (slice_get z.workers w) z r (with w y.deque y.hand v)) e
    (subst (λ (o : Option Worker). IsPopped w o v r (with w y.deque y.hand v)) (sym (there v.workers w x lt get))
    (popped-by r v w x y (there v.workers w x lt get) i hand))
