-- Pieces that grow by those that one more leaves.
use Rattle.std.proofs.Common.{◌≡◌, ◌<◌, ◌≤◌, ◌+◌, ℕ, zero, suc, List, [], ◌∷◌, ◌++◌, map, length, get_or, set, slice_get, Option, Some, None, Bool, true}
use Rattle.std.proofs.Common.{◌-◌, false, cond, nat_lt, Result, Ok, IfOk}
use Rattle.std.proofs.Common.{refl, sym, ap, subst, ◌∙◌, arith}
use Rattle.std.specs.List.{All}
use Rattle.std.proofs.lemmas.List.{map-append}
use Rattle.std.proofs.lemmas.List.Elements.{All-nil, All-cons, All-head, All-tail, All-append, All-map}
use Rattle.std.proofs.lemmas.Bool.{true≢false}
use Rattle.std.proofs.lemmas.Bool.Decides.{nat_tests}
use Rattle.xs_trace.specs.Mark.{Tick, Put, Say, Stop, Need, Hole, Trace, tick_count}
use Rattle.xs_trace.specs.Cut.{End, Whole, Fault, Needs, Spent, Full, Cut, cut_from, nowhere, cut}
use Rattle.xs_trace.specs.Fill.{tasks_of, numbered, HolesAre}
use Rattle.xs_trace.specs.Kept.{ended_by}
use Rattle.xs_trace.specs.declared.item.Ended.{Ended}
use Rattle.xs_trace.specs.declared.item.Limits.{Limits}
use Rattle.xs_trace.specs.declared.item.Site.{Site}
use Rattle.xs_core.specs.declared.place.Claim.{Claim}
use Rattle.xs_trace.proofs.KnownLemmas.{numbered-laws}
use Rattle.xs_core.specs.declared.piece.Progress.{Progress}
use Rattle.xs_core.specs.Good.{total, children}
use Rattle.xs_record.specs.Outcome.{IsOutcome, is_done, part_marks}
use Rattle.xs_record.specs.Piece.{IsWhole, EndsBy, IsPiece}
use Rattle.xs_record.specs.declared.outcome.Outcome.{Outcome}
use Rattle.xs_pieces.specs.Tree.{task_at, ArePlaced, BeginsWithTick}
use Rattle.xs_pieces.specs.Ready.{IsReady}
use Rattle.xs_pieces.specs.Collection.{is_finished, IfFinished, ticks_in, holes_in, ticks_spent, children_in, places_in, finished_in, dropped_in}
use Rattle.xs_pieces.specs.Collection.{if_run, claimed_in, AreClaims, IsCollection}
use Rattle.xs_pieces.specs.declared.piece.Piece.{Piece}
use Rattle.xs_pieces.proofs.TreeLemmas.{at-child}
use Rattle.xs_pool.specs.steps.Running.{waiting, ran_at, IsRun, IsRunTo, IsNext}
use Rattle.xs_pool.proofs.StoppedLemmas.{stopped-good}

-- ---- how a piece ended

done-of : Option Ended → Bool
done-of None = true
done-of (Some e) = is_done e

is-done : (e : End) (o : Ended) → ended_by e ≡ Some o → is_done o ≡ true
unfolding done-of
is-done Whole o h = ap done-of (sym h)
is-done (Fault f p) o h = ap done-of (sym h)
is-done (Needs g p) o h = absurd (cc)
is-done (Spent p) o h = ap done-of (sym h)
is-done (Full p) o h = ap done-of (sym h)

-- a piece that is finished
finished-by : {H : Type 0} → (b : Bool) (x : Trace H) (l : Limits) (most last : ℕ) (old new : List H) (o : Outcome) → nat_lt most last ≡ b →
    EndsBy (cond b (Some last) None) x l old new o → is_done o.ended ≡ true → IsWhole x l old new o × (last ≤ most)
finished-by true x l most last old new o e h d = absurd (true≢false (sym d ∙ ap is_done h.0))
finished-by false x l most last old new o e h d = (h, grind (arith, nat_tests, e))

pub piece-finished : {H : Type 0} → (x : Trace H) (l : Limits) (most before after last : ℕ) (old new : List H) (o : Outcome) →
    IsPiece x l most before after last old new o → is_done o.ended ≡ true → IsWhole x l old new o × (last ≤ most)
piece-finished x l most before after last old new o i d = finished-by (nat_lt most last) x l most last old new o refl i.ends d

-- the ticks of a beginning
pub numbers-ticks : {H : Type 0} → (x : Trace H) (l : Limits) →
    tick_count (cut (numbered 0 x) l.ticks l.events).passed ≡ tick_count (cut x l.ticks l.events).passed
numbers-ticks {H} x l =
    ap (λ (c : Cut ℕ). tick_count c.passed) ((numbered-laws H).cuts x nowhere l.ticks l.events 0)
    ∙ (numbered-laws H).ticks 0 (cut x l.ticks l.events).passed

ticks-join : {H : Type 0} → (x y : Trace H) → tick_count (x ++ y) ≡ tick_count x + tick_count y
ticks-join [] y = omega arith
ticks-join (Tick p ∷ x) y = let i = ticks-join x y in omega arith
ticks-join (Put e ∷ x) y = ticks-join x y
ticks-join (Say s ∷ x) y = ticks-join x y
ticks-join (Stop n p ∷ x) y = ticks-join x y
ticks-join (Need g p ∷ x) y = ticks-join x y
ticks-join (Hole k ∷ x) y = ticks-join x y

-- a piece that ended in the total
over-by : {H : Type 0} → (b : Bool) (x : Trace H) (l : Limits) (most last : ℕ) (old new : List H) (o : Outcome) → nat_lt most last ≡ b →
    EndsBy (cond b (Some last) None) x l old new o → o.ticks ≡ tick_count (part_marks o.parts.items) → is_done o.ended ≡ false →
    (most < last) × (o.ticks ≤ tick_count (cut x l.ticks l.events).passed)
over-by {H} true x l most last old new o e h t d =
    let m : tick_count (part_marks o.parts.items) ≡ tick_count h.1.marks = ap tick_count h.1.parts ∙ (numbered-laws H).ticks 0 h.1.marks in
    let j = ticks-join h.1.marks h.1.rest in
    let p : tick_count (cut x l.ticks l.events).passed ≡ tick_count (h.1.marks ++ h.1.rest) = ap tick_count h.1.passed in
    (grind (arith, nat_tests, e), omega arith)
over-by false x l most last old new o e h t d = absurd (true≢false (sym (is-done (cut (numbered 0 x) l.ticks l.events).end o.ended h.outcome.ended) ∙ d))

pub piece-over : {H : Type 0} → (x : Trace H) (l : Limits) (most before after last : ℕ) (old new : List H) (o : Outcome) →
    IsPiece x l most before after last old new o → is_done o.ended ≡ false → (most < last) × (o.ticks ≤ tick_count (cut x l.ticks l.events).passed)
piece-over x l most before after last old new o i d = over-by (nat_lt most last) x l most last old new o refl i.ends i.ticks d

-- what begins with a tick takes one, unless there are none; then it leaves nothing
pub begins-ticks : {H : Type 0} → (x : Trace H) (b : ℕ) (m : Option ℕ) → BeginsWithTick x → 0 < b → 0 < tick_count (cut x b m).passed
begins-ticks [] b m h k = absurd h
begins-ticks (Tick p ∷ x) zero m h k = absurd (omega (arith, k))
begins-ticks (Tick p ∷ x) (suc b) m h k = omega arith
begins-ticks (Put e ∷ x) b m h k = absurd h
begins-ticks (Say s ∷ x) b m h k = absurd h
begins-ticks (Stop n p ∷ x) b m h k = absurd h
begins-ticks (Need g p ∷ x) b m h k = absurd h
begins-ticks (Hole c ∷ x) b m h k = absurd h

begins-none : {H : Type 0} → (x : Trace H) (b : ℕ) (m : Option ℕ) → BeginsWithTick x → b ≡ 0 → tasks_of (cut x b m).passed ≡ []
begins-none [] b m h k = absurd h
begins-none (Tick p ∷ x) zero m h k = refl
begins-none (Tick p ∷ x) (suc b) m h k = absurd (omega (arith, k))
begins-none (Put e ∷ x) b m h k = absurd h
begins-none (Say s ∷ x) b m h k = absurd h
begins-none (Stop n p ∷ x) b m h k = absurd h
begins-none (Need g p ∷ x) b m h k = absurd h
begins-none (Hole c ∷ x) b m h k = absurd h

-- ---- lists of pieces

same-at : {X : Type 0} → (xs : List X) (i : ℕ) (d e : X) → i < length xs → get_or xs i d ≡ get_or xs i e
same-at [] i d e h = absurd (omega (arith, h))
same-at (x ∷ xs) zero d e h = refl
same-at (x ∷ xs) (suc i) d e h = same-at xs i d e (omega (arith, h))

-- the task of a piece that was looked up
pub task-at-index : {H : Type 0} → (ps : List (Piece H)) (i : ℕ) (p : Piece H) → i < length ps → p ≡ get_or ps i p → (d : Piece H) →
    (get_or ps i d).task ≡ p.task
task-at-index {H} ps i p h e d = ap (λ (x : Piece H). x.task) (same-at ps i d p h ∙ sym e)

-- what a run that was not refused says
pub piece-of : {H E : Type 0} → (x : Trace H) (l : Limits) (most m before after last : ℕ) (old new : List H) (r : Result Outcome E) (o : Outcome) → r ≡ Ok o →
    most ≡ m → old ≡ [] → IfOk r (IsPiece x l most before after last old new) → IsPiece x l m before after last [] new o
piece-of {H} {E} x l most m before after last old new r o e f g h =
    let i : IsPiece x l most before after last old new o =
    subst (λ (z : Result Outcome E). IfOk z (IsPiece x l most before after last old new)) e h in
    subst (λ (k : ℕ). IsPiece x l k before after last [] new o) f (subst (λ (y : List H). IsPiece x l most before after last y new o) g i)

pub ran-set : {H : Type 0} → (ps : List (Piece H)) (i : ℕ) (p : Piece H) (o : Outcome) → i < length ps → p ≡ get_or ps i p →
    set ps i (record { task = p.task; outcome = Some o }) ≡ ran_at i o ps
ran-set [] i p o h e = absurd (omega (arith, h))
ran-set (x ∷ ps) zero p o h e = cc
ran-set (x ∷ ps) (suc i) p o h e = ap (λ t. x ∷ t) (ran-set ps i p o (omega (arith, h)) e)

all-ran : {H : Type 0} → (P : Piece H → Type 0) (i : ℕ) (o : Outcome) (ps : List (Piece H)) →
    ((d : Piece H) → i < length ps → P (get_or ps i d) → P (record { task = (get_or ps i d).task; outcome = Some o })) → All P ps → All P (ran_at i o ps)
all-ran P i o [] f h = h
all-ran P zero o (p ∷ ps) f h = All-cons P _ ps (f p (omega arith) (All-head P p ps h)) (All-tail P p ps h)
all-ran P (suc i) o (p ∷ ps) f h =
    All-cons P p (ran_at i o ps) (All-head P p ps h) (all-ran P i o ps (λ d l. f d (omega (arith, l))) (All-tail P p ps h))

length-ran : {H : Type 0} → (i : ℕ) (o : Outcome) (ps : List (Piece H)) → length (ran_at i o ps) ≡ length ps
length-ran i o [] = refl
length-ran zero o (p ∷ ps) = refl
length-ran (suc i) o (p ∷ ps) = ap suc (length-ran i o ps)

places-ran : {H : Type 0} → (place : H → List ℕ) (i : ℕ) (o : Outcome) (ps : List (Piece H)) → places_in place (ran_at i o ps) ≡ places_in place ps
places-ran place i o [] = refl
places-ran place zero o (p ∷ ps) = refl
places-ran place (suc i) o (p ∷ ps) = ap (λ t. place p.task ∷ t) (places-ran place i o ps)

places-waiting : {H : Type 0} → (place : H → List ℕ) (ts : List H) → places_in place (map waiting ts) ≡ map place ts
places-waiting place [] = refl
places-waiting place (t ∷ ts) = ap (λ z. place t ∷ z) (places-waiting place ts)

places-next : {H : Type 0} → (place : H → List ℕ) (i : ℕ) (o : Outcome) (ps : List (Piece H)) (ts : List H) →
    places_in place (ran_at i o ps ++ map waiting ts) ≡ places_in place ps ++ map place ts
places-next place i o ps ts =
    map-append (λ p. place p.task) (ran_at i o ps) (map waiting ts)
    ∙ ap (λ z. z ++ places_in place (map waiting ts)) (places-ran place i o ps)
    ∙ ap (λ z. places_in place ps ++ z) (places-waiting place ts)

pub all-waiting : {H : Type 0} → (P : Piece H → Type 0) (ts : List H) → All (λ t. P (waiting t)) ts → All P (map waiting ts)
all-waiting P ts h = All-map P waiting ts h

pub total-join : {X : Type 0} → (f : X → ℕ) (xs ys : List X) → total f (xs ++ ys) ≡ total f xs + total f ys
total-join f [] ys = omega arith
total-join f (x ∷ xs) ys = let i = total-join f xs ys in omega arith

waits-at : {H : Type 0} → (ts : List H) (k : ℕ) (d : Piece H) → k < length (map waiting ts) → (get_or (map waiting ts) k d).outcome ≡ None
waits-at [] k d h = absurd (omega (arith, h))
waits-at (t ∷ ts) zero d h = refl
waits-at (t ∷ ts) (suc k) d h = waits-at ts k d (omega (arith, h))

finished-waiting : {H : Type 0} → (place : H → List ℕ) (ts : List H) → finished_in place (map waiting ts) ≡ []
finished-waiting place [] = refl
finished-waiting place (t ∷ ts) = finished-waiting place ts

-- the first n stay finished, and the next one is
first-ran : {H : Type 0} → (ps qs : List (Piece H)) (n : ℕ) (o : Outcome) (k : ℕ) (d : Piece H) → n < length ps → k < n + 1 →
    ((j : ℕ) (d : Piece H) → j < n → is_finished (get_or ps j d).outcome ≡ true) → is_done o.ended ≡ true →
    is_finished (get_or (ran_at n o ps ++ qs) k d).outcome ≡ true
first-ran [] qs n o k d h i f e = absurd (omega (arith, h))
first-ran (p ∷ ps) qs zero o zero d h i f e = e
first-ran (p ∷ ps) qs zero o (suc k) d h i f e = absurd (omega (arith, i))
first-ran (p ∷ ps) qs (suc n) o zero d h i f e = f 0 d (omega arith)
first-ran (p ∷ ps) qs (suc n) o (suc k) d h i f e = first-ran ps qs n o k d (omega (arith, h)) (omega (arith, i)) (λ j d l. f (suc j) d (omega (arith, l))) e

rest-ran : {H : Type 0} → (ps : List (Piece H)) (ts : List H) (n : ℕ) (o : Outcome) (k : ℕ) (d : Piece H) → n + 1 ≤ k →
    k < length (ran_at n o ps ++ map waiting ts) → ((j : ℕ) (d : Piece H) → n ≤ j → j < length ps → (get_or ps j d).outcome ≡ None) →
    (get_or (ran_at n o ps ++ map waiting ts) k d).outcome ≡ None
rest-ran [] ts n o k d h i f = waits-at ts k d i
rest-ran (p ∷ ps) ts zero o zero d h i f = absurd (omega (arith, h))
rest-ran {H} (p ∷ ps) ts zero o (suc k) d h i f = behind ps ts k d (omega (arith, i)) (λ j d l. f (suc j) d (omega arith) (omega (arith, l)))
  where
    behind : (ps : List (Piece H)) (ts : List H) (k : ℕ) (d : Piece H) → k < length (ps ++ map waiting ts) →
        ((j : ℕ) (d : Piece H) → j < length ps → (get_or ps j d).outcome ≡ None) → (get_or (ps ++ map waiting ts) k d).outcome ≡ None
    behind [] ts k d h f = waits-at ts k d h
    behind (p ∷ ps) ts zero d h f = f 0 d (omega arith)
    behind (p ∷ ps) ts (suc k) d h f = behind ps ts k d (omega (arith, h)) (λ j d l. f (suc j) d (omega (arith, l)))
rest-ran (p ∷ ps) ts (suc n) o zero d h i f = absurd (omega (arith, h))
rest-ran (p ∷ ps) ts (suc n) o (suc k) d h i f =
    rest-ran ps ts n o k d (omega (arith, h)) (omega (arith, i)) (λ j d l m. f (suc j) d (omega (arith, l)) (omega (arith, m)))

-- what is finished, weighed
finished-ran : {H : Type 0} → (f : List ℕ → ℕ) (place : H → List ℕ) (ps : List (Piece H)) (ts : List H) (n : ℕ) (o : Outcome) (d : Piece H) → n < length ps →
    is_done o.ended ≡ true → (get_or ps n d).outcome ≡ None →
    total f (finished_in place (ran_at n o ps ++ map waiting ts)) ≡ total f (finished_in place ps) + f (place (get_or ps n d).task)
finished-ran f place [] ts n o d h e w = absurd (omega (arith, h))
finished-ran {H} f place (p ∷ ps) ts zero o d h e w =
    let a : total f (finished_in place (ran_at 0 o (p ∷ ps) ++ map waiting ts)) ≡ f (place p.task) + total f (finished_in place (ps ++ map waiting ts)) =
    ap (λ b. total f (cond b (place p.task ∷ finished_in place (ps ++ map waiting ts)) (finished_in place (ps ++ map waiting ts)))) e in
    let b : total f (finished_in place (p ∷ ps)) ≡ total f (finished_in place ps) =
    ap (λ (q : Option Outcome). total f (cond (is_finished q) (place p.task ∷ finished_in place ps) (finished_in place ps))) w in
    let c = none-more ps in
    omega arith
  where
    none-more : (ps : List (Piece H)) → total f (finished_in place (ps ++ map waiting ts)) ≡ total f (finished_in place ps)
    none-more [] = ap (total f) (finished-waiting place ts)
    none-more (p ∷ ps) = by (is_finished p.outcome) (none-more ps)
      where
        by : (b : Bool) → total f (finished_in place (ps ++ map waiting ts)) ≡ total f (finished_in place ps) →
            total f (cond b (place p.task ∷ finished_in place (ps ++ map waiting ts)) (finished_in place (ps ++ map waiting ts)))
            ≡ total f (cond b (place p.task ∷ finished_in place ps) (finished_in place ps))
        by true i = ap (λ n. f (place p.task) + n) i
        by false i = i
finished-ran {H} f place (p ∷ ps) ts (suc n) o d h e w = by (is_finished p.outcome) (finished-ran f place ps ts n o d (omega (arith, h)) e w)
  where
    by : (b : Bool) →
        total f (finished_in place (ran_at n o ps ++ map waiting ts)) ≡ total f (finished_in place ps) + f (place (get_or ps n d).task) →
        total f (cond b (place p.task ∷ finished_in place (ran_at n o ps ++ map waiting ts)) (finished_in place (ran_at n o ps ++ map waiting ts)))
        ≡ total f (cond b (place p.task ∷ finished_in place ps) (finished_in place ps)) + f (place (get_or ps n d).task)
    by true i = omega arith
    by false i = i

-- ---- the tasks of holes

holes-passed : {H : Type 0} → (P : H → Type 0) (x : Trace H) (at : Site) (b : ℕ) (m : Option ℕ) → HolesAre P x → HolesAre P (cut_from x at b m).passed
holes-passed P [] at b m h = tt
holes-passed P (Tick p ∷ x) at zero m h = tt
holes-passed P (Tick p ∷ x) at (suc b) m h = holes-passed P x p b m h
holes-passed P (Put e ∷ x) at b None h = holes-passed P x at b None h
holes-passed P (Put e ∷ x) at b (Some zero) h = tt
holes-passed P (Put e ∷ x) at b (Some (suc m)) h = holes-passed P x at b (Some m) h
holes-passed P (Say t ∷ x) at b m h = holes-passed P x at b m h
holes-passed P (Stop f p ∷ x) at b m h = tt
holes-passed P (Need g p ∷ x) at b m h = tt
holes-passed P (Hole k ∷ x) at b m h = (h.0, holes-passed P x at b m h.1)

holes-tasks : {H : Type 0} → (P : H → Type 0) (x : Trace H) → HolesAre P x → All P (tasks_of x)
holes-tasks P [] h = All-nil P
holes-tasks P (Tick p ∷ x) h = holes-tasks P x h
holes-tasks P (Put e ∷ x) h = holes-tasks P x h
holes-tasks P (Say t ∷ x) h = holes-tasks P x h
holes-tasks P (Stop f p ∷ x) h = holes-tasks P x h
holes-tasks P (Need g p ∷ x) h = holes-tasks P x h
holes-tasks P (Hole k ∷ x) h = All-cons P k (tasks_of x) h.0 (holes-tasks P x h.1)

pub children-are : {H : Type 0} → (P : H → Type 0) (x : Trace H) (l : Limits) → HolesAre P x → All P (tasks_of (cut x l.ticks l.events).passed)
children-are P x l h = holes-tasks P (cut x l.ticks l.events).passed (holes-passed P x nowhere l.ticks l.events h)

-- each hole's task is the tree's at its place
pub child-tasks : {H : Type 0} → (place : H → List ℕ) (own : H → Trace H) (root t : H) (p : List ℕ) (n : ℕ) (x : Trace H) → task_at own (Some root) p ≡ Some t →
    ((k : ℕ) → slice_get (tasks_of (own t)) (n + k) ≡ slice_get (tasks_of x) k) → ArePlaced place p n x →
    HolesAre (λ c. task_at own (Some root) (place c) ≡ Some c) x
child-tasks place own root t p n [] e f a = tt
child-tasks place own root t p n (Tick s ∷ x) e f a = child-tasks place own root t p n x e f a
child-tasks place own root t p n (Put v ∷ x) e f a = child-tasks place own root t p n x e f a
child-tasks place own root t p n (Say w ∷ x) e f a = child-tasks place own root t p n x e f a
child-tasks place own root t p n (Stop w s ∷ x) e f a = child-tasks place own root t p n x e f a
child-tasks place own root t p n (Need g s ∷ x) e f a = child-tasks place own root t p n x e f a
child-tasks {H} place own root t p n (Hole c ∷ x) e f a =
    let z : n + 0 ≡ n = omega arith in
    let s : (k : ℕ) → suc n + k ≡ n + suc k = λ k. omega arith in (
      ap (task_at own (Some root)) a.0 ∙ at-child own (Some root) p n ∙ ap (λ (o : Option H). task_at own o (n ∷ [])) e
          ∙ ap (slice_get (tasks_of (own t))) (sym z) ∙ f 0,
      child-tasks place own root t p (suc n) x e (λ k. ap (slice_get (tasks_of (own t))) (s k) ∙ f (suc k)) a.1,
    )

-- the places of a piece's children, weighed
pub child-weights : {H : Type 0} → (h : List ℕ → ℕ) (place : H → List ℕ) (p : List ℕ) (n : ℕ) (x : Trace H) (at : Site) (b : ℕ) (m : Option ℕ) →
    ArePlaced place p n x →
    children h p (n + length (tasks_of (cut_from x at b m).passed)) ≡ children h p n + total h (map place (tasks_of (cut_from x at b m).passed))
child-weights h place p n [] at b m a = no-more h p n
  where
    no-more : (h : List ℕ → ℕ) (p : List ℕ) (n : ℕ) → children h p (n + 0) ≡ children h p n + 0
    no-more h p n = let z : n + 0 ≡ n = omega arith in let e = ap (children h p) z in omega arith
child-weights h place p n (Tick s ∷ x) at zero m a = let z : n + 0 ≡ n = omega arith in let e = ap (children h p) z in omega arith
child-weights h place p n (Tick s ∷ x) at (suc b) m a = child-weights h place p n x s b m a
child-weights h place p n (Put e ∷ x) at b None a = child-weights h place p n x at b None a
child-weights h place p n (Put e ∷ x) at b (Some zero) a = let z : n + 0 ≡ n = omega arith in let e = ap (children h p) z in omega arith
child-weights h place p n (Put e ∷ x) at b (Some (suc m)) a = child-weights h place p n x at b (Some m) a
child-weights h place p n (Say t ∷ x) at b m a = child-weights h place p n x at b m a
child-weights h place p n (Stop f s ∷ x) at b m a = let z : n + 0 ≡ n = omega arith in let e = ap (children h p) z in omega arith
child-weights h place p n (Need g s ∷ x) at b m a = let z : n + 0 ≡ n = omega arith in let e = ap (children h p) z in omega arith
child-weights h place p n (Hole c ∷ x) at b m a =
    let i = child-weights h place p (suc n) x at b m a.1 in
    let e : h (place c) ≡ h (p ++ n ∷ []) = ap h a.0 in
    let s : suc n + length (tasks_of (cut_from x at b m).passed) ≡ n + suc (length (tasks_of (cut_from x at b m).passed)) = omega arith in
    let j = ap (children h p) s in
    omega arith

-- ---- one piece more

pub runs-next : {H : Type 0} → (IsOwn : H → Type 0) (place : H → List ℕ) (own whole : H → Trace H) → IsReady IsOwn place own whole →
    (root : H) (l : Limits) (n before after last : ℕ) (ps qs : List (Piece H)) (t : H) (new : List H) (o : Outcome) →
    IsRun IsOwn place own root l n before ps → n < length ps →
    ((d : Piece H) → (get_or ps n d).task ≡ t) → Piece H → IsPiece (own t) l l.ticks before after last [] new o → is_done o.ended ≡ true →
    qs ≡ ran_at n o ps ++ map waiting new → IsNext IsOwn place own root l n before after last false ps qs
runs-next {H} IsOwn place own whole ready root l n before after last ps qs t new o r lt at one i d e =
    let w = piece-finished (own t) l l.ticks before after last [] new o i d in
    let ts : List H = tasks_of (cut (own t) l.ticks l.events).passed in
    let own-t : IsOwn t = subst IsOwn (at one) (r.own_tasks n one lt) in
    let begin-t : BeginsWithTick (own t) = subst (λ (z : H). BeginsWithTick (own z)) (at one) (r.begin n one lt) in
    let at-t : task_at own (Some root) (place t) ≡ Some t = subst (λ (z : H). task_at own (Some root) (place z) ≡ Some z) (at one) (r.tasks n one lt) in
    let z : (k : ℕ) → 0 + k ≡ k = λ k. omega arith in
    let same : new ≡ ts = w.0.tasks in
    let u : o.ticks ≡ tick_count (cut (own t) l.ticks l.events).passed = w.0.outcome.ticks ∙ numbers-ticks (own t) l in
    let added = i.added in
    let f : IsRun IsOwn place own root l (n + 1) after (ran_at n o ps ++ map waiting ts) = record {
      own_root = r.own_root;
      own_tasks = All-append (λ p. IsOwn p.task) (ran_at n o ps) (map waiting ts) (all-ran (λ p. IsOwn p.task) n o ps (λ d h p. p) r.own_tasks)
          (all-waiting (λ p. IsOwn p.task) ts (children-are IsOwn (own t) l (ready.inside t own-t)));
      tasks = All-append (λ p. task_at own (Some root) (place p.task) ≡ Some p.task) (ran_at n o ps) (map waiting ts)
          (all-ran (λ p. task_at own (Some root) (place p.task) ≡ Some p.task) n o ps (λ d h p. p) r.tasks)
          (all-waiting (λ p. task_at own (Some root) (place p.task) ≡ Some p.task) ts
          (children-are (λ c. task_at own (Some root) (place c) ≡ Some c) (own t) l
          (child-tasks place own root t (place t) 0 (own t) at-t (λ k. ap (slice_get (tasks_of (own t))) (z k)) (ready.placed t own-t))));
      outcomes = All-append (λ p. IfFinished (IsOutcome (own p.task) l) p.outcome) (ran_at n o ps) (map waiting ts)
          (all-ran (λ p. IfFinished (IsOutcome (own p.task) l) p.outcome) n o ps
          (λ d h p q. subst (λ (x : H). IsOutcome (own x) l o) (sym (at d)) w.0.outcome) r.outcomes)
          (all-waiting (λ p. IfFinished (IsOutcome (own p.task) l) p.outcome) ts (λ k d h. tt));
      begin = All-append (λ p. BeginsWithTick (own p.task)) (ran_at n o ps) (map waiting ts) (all-ran (λ p. BeginsWithTick (own p.task)) n o ps
          (λ d h p. p) r.begin)
          (all-waiting (λ p. BeginsWithTick (own p.task)) ts (children-are (λ c. BeginsWithTick (own c)) (own t) l (ready.begins t own-t)));
      alone = λ y.
          let a = r.alone y in
          let b : length (ran_at n o ps ++ map waiting ts) ≡ length (ran_at n o ps ++ []) =
          ap (λ (v : List H). length (ran_at n o ps ++ map waiting v)) (begins-none (own t) l.ticks l.events begin-t y) in
          let c = length-none (ran_at n o ps) in
          let m = length-ran n o ps in
          omega arith;
      first = λ k d h. first-ran ps (map waiting ts) n o k d lt h r.first d-ended;
      rest = λ k d h u. rest-ran ps ts n o k d h u r.rest;
      counted = λ h.
          let f : List ℕ → ℕ = λ p. children h p (holes_in own l (task_at own (Some root) p)) in
          let a : total h (places_in place (ran_at n o ps ++ map waiting ts)) ≡ total h (places_in place ps) + total h (map place ts) =
          ap (total h) (places-next place n o ps ts) ∙ total-join h (places_in place ps) (map place ts) in
          let b = child-weights h place (place t) 0 (own t) nowhere l.ticks l.events (ready.placed t own-t) in
          let v : f (place t) ≡ children h (place t) (length ts) = ap (λ (x : Option H). children h (place t) (holes_in own l x)) at-t in
          let u = finished-ran f place ps ts n o one lt d-ended (r.rest n one (omega arith) lt) in
          let w : f (place (get_or ps n one).task) ≡ f (place t) = ap (λ (x : H). f (place x)) (at one) in
          let y : children h (place t) (0 + length ts) ≡ children h (place t) (length ts) = ap (children h (place t)) (z (length ts)) in
          let c = r.counted h in
          omega arith;
      summed =
          let f : List ℕ → ℕ = λ p. ticks_in own l (task_at own (Some root) p) in
          let v : f (place t) ≡ tick_count (cut (own t) l.ticks l.events).passed = ap (λ (x : Option H). ticks_in own l x) at-t in
          let s = finished-ran f place ps ts n o one lt d-ended (r.rest n one (omega arith) lt) in
          let w : f (place (get_or ps n one).task) ≡ f (place t) = ap (λ (x : H). f (place x)) (at one) in
          let c = r.summed in
          omega arith;
    } in (
      o,
      new,
      e,
      subst (λ (x : List (Piece H)). IsRun IsOwn place own root l (n + 1) after x) (sym (e ∙ ap (λ (v : List H). ran_at n o ps ++ map waiting v) same)) f,
      w.1,
      omega (arith, added),
      λ h. let b = begins-ticks (own t) l.ticks l.events begin-t h in omega arith,
    )
  where
    d-ended : is_done o.ended ≡ true
    d-ended = d

    length-none : {X : Type 0} → (xs : List X) → length (xs ++ []) ≡ length xs
    length-none [] = refl
    length-none (x ∷ xs) = ap suc (length-none xs)

-- ---- it ends

-- what is not finished was not run
none-run : {H : Type 0} → (IsOwn : H → Type 0) (place : H → List ℕ) (own : H → Trace H) (root : H) (l : Limits) (n t : ℕ) (ps : List (Piece H)) →
    IsRun IsOwn place own root l n t ps → (k : ℕ) (d : Piece H) → k < length ps → is_finished (get_or ps k d).outcome ≡ false → (get_or ps k d).outcome ≡ None
none-run IsOwn place own root l n t ps r k d h e = by (nat_lt k n) refl
  where
    by : (b : Bool) → nat_lt k n ≡ b → (get_or ps k d).outcome ≡ None
    by true i = absurd (true≢false (sym (r.first k d (grind (arith, nat_tests, i))) ∙ e))
    by false i = r.rest k d (grind (arith, nat_tests, i)) h

abbrev NoneRun : {H : Type 0} → List (Piece H) → Type 0
NoneRun {H = H} ps = (k : ℕ) (d : Piece H) → k < length ps → is_finished (get_or ps k d).outcome ≡ false → (get_or ps k d).outcome ≡ None

abbrev dropped : {H : Type 0} → (place : H → List ℕ) → List (List ℕ) → Piece H → Progress
dropped place places p = record { place = place p.task; spent = ticks_spent p.outcome; given = children_in places (place p.task) }

none-spent : {H : Type 0} → (place : H → List ℕ) (places : List (List ℕ)) (ps : List (Piece H)) → NoneRun ps →
    total (λ x. x.spent) (dropped_in place places ps) ≡ 0
none-spent place places [] f = refl
none-spent {H} place places (p ∷ ps) f =
    by (is_finished p.outcome) refl (none-spent place places ps (λ k d l e. f (suc k) d (omega (arith, l)) e)) (f 0 p (omega arith))
  where
    by : (b : Bool) → is_finished p.outcome ≡ b → total (λ x. x.spent) (dropped_in place places ps) ≡ 0 → (is_finished p.outcome ≡ false → p.outcome ≡ None) →
        total (λ (x : Progress). x.spent) (cond b (dropped_in place places ps) (dropped place places p ∷ dropped_in place places ps)) ≡ 0
    by true e i j = i
    by false e i j = let s = ap ticks_spent (j e) in omega arith

-- a piece that ended in the total has spent its ticks
over-spent : {H : Type 0} → (place : H → List ℕ) (places : List (List ℕ)) (ps : List (Piece H)) (n : ℕ) (o : Outcome) (d : Piece H) → n < length ps →
    NoneRun ps →
    is_done o.ended ≡ false → (get_or ps n d).outcome ≡ None → total (λ x. x.spent) (dropped_in place places (ran_at n o ps)) ≡ o.ticks
over-spent place places [] n o d h f e w = absurd (omega (arith, h))
over-spent {H} place places (p ∷ ps) zero o d h f e w =
    let a : total (λ x. x.spent) (dropped_in place places (ran_at 0 o (p ∷ ps))) ≡ o.ticks + total (λ x. x.spent) (dropped_in place places ps) =
    ap (λ b. total (λ (x : Progress). x.spent) (cond b (dropped_in place places ps) (dropped place places (record {
      task = p.task;
      outcome =
          Some o;
    }) ∷ dropped_in place places ps))) e in
    let c = none-spent place places ps (λ k d l e. f (suc k) d (omega (arith, l)) e) in
    omega arith
over-spent {H} place places (p ∷ ps) (suc n) o d h f e w =
    by (is_finished p.outcome) refl (over-spent place places ps n o d (omega (arith, h)) (λ k d l e. f (suc k) d (omega (arith, l)) e) e w) (f 0 p
    (omega arith))
  where
    by : (b : Bool) → is_finished p.outcome ≡ b → total (λ x. x.spent) (dropped_in place places (ran_at n o ps)) ≡ o.ticks →
        (is_finished p.outcome ≡ false → p.outcome ≡ None) →
        total (λ (x : Progress). x.spent) (cond b (dropped_in place places (ran_at n o ps)) (dropped place places p ∷ dropped_in place places
        (ran_at n o ps))) ≡ o.ticks
    by true e i j = i
    by false e i j = let s = ap ticks_spent (j e) in omega arith

finished-over : {H : Type 0} → (place : H → List ℕ) (ps : List (Piece H)) (n : ℕ) (o : Outcome) (d : Piece H) → n < length ps → is_done o.ended ≡ false →
    (get_or ps n d).outcome ≡ None → finished_in place (ran_at n o ps) ≡ finished_in place ps
finished-over place [] n o d h e w = refl
finished-over place (p ∷ ps) zero o d h e w =
    ap (λ b. cond b (place p.task ∷ finished_in place ps) (finished_in place ps)) e
    ∙ sym (ap (λ (q : Option Outcome). cond (is_finished q) (place p.task ∷ finished_in place ps) (finished_in place ps)) w)
finished-over place (p ∷ ps) (suc n) o d h e w =
    ap (λ z. cond (is_finished p.outcome) (place p.task ∷ z) z) (finished-over place ps n o d (omega (arith, h)) e w)

pub runs-over : {H : Type 0} → (IsOwn : H → Type 0) (place : H → List ℕ) (own whole : H → Trace H) → IsReady IsOwn place own whole →
    (root : H) (l : Limits) (n before after last : ℕ) (ps qs : List (Piece H)) (t : H) (new : List H) (o : Outcome) →
    IsRun IsOwn place own root l n before ps → n < length ps →
    ((d : Piece H) → (get_or ps n d).task ≡ t) → Piece H → IsPiece (own t) l l.ticks before after last [] new o → is_done o.ended ≡ false →
    qs ≡ ran_at n o ps → IsNext IsOwn place own root l n before after last true ps qs
runs-over {H} IsOwn place own whole ready root l n before after last ps qs t new o r lt at one i d e =
    let w = piece-over (own t) l l.ticks before after last [] new o i d in
    let at-t : task_at own (Some root) (place t) ≡ Some t = subst (λ (z : H). task_at own (Some root) (place z) ≡ Some z) (at one) (r.tasks n one lt) in
    let none = none-run IsOwn place own root l n before ps r in
    let there = r.rest n one (omega arith) lt in
    let added = i.added in
    let fin = finished-over place ps n o one lt d there in
    let same = places-ran place n o ps in (
      o,
      e,
      λ above. subst (λ (x : List (Piece H)). IsCollection IsOwn place own root l x after) (sym e)
          (stopped-good IsOwn place own root l after (ran_at n o ps) (record {
            own_root = r.own_root;
            own_tasks = all-ran (λ p. IsOwn p.task) n o ps (λ d h p. p) r.own_tasks;
            tasks = all-ran (λ p. task_at own (Some root) (place p.task) ≡ Some p.task) n o ps (λ d h p. p) r.tasks;
            outcomes = all-ran (λ p. IfFinished (IsOutcome (own p.task) l) p.outcome) n o ps (λ c h p q. absurd (true≢false (sym q ∙ d))) r.outcomes;
            counted = λ h.
                let a = ap (total h) same in
                let b = ap (total (λ p. children h p (holes_in own l (task_at own (Some root) p)))) fin in
                let c = r.counted h in
                omega arith;
            summed =
                let a = ap (total (λ p. ticks_in own l (task_at own (Some root) p))) fin in
                let b = over-spent place (places_in place (ran_at n o ps)) ps n o one lt none d there in
                let c = r.summed in
                omega arith;
            spent = all-ran (λ p. is_finished p.outcome ≡ false → ticks_spent p.outcome ≤ ticks_in own l (task_at own (Some root) (place p.task))) n o ps
                (λ c h p q.
                let a : ticks_in own l (task_at own (Some root) (place (get_or ps n c).task)) ≡ tick_count (cut (own t) l.ticks l.events).passed =
                ap (λ (x : H). ticks_in own l (task_at own (Some root) (place x))) (at c) ∙ ap (ticks_in own l) at-t in
                let b = w.1 in
                omega arith)
                (λ k c h q. let s = ap ticks_spent (none k c h q) in omega arith);
            above = λ k c h q. above w.0;
          })),
    )

pub runs-out : {H : Type 0} → (IsOwn : H → Type 0) (place : H → List ℕ) (own : H → Trace H) (root : H) (l : Limits) (n t last : ℕ) (ps : List (Piece H)) →
    IsRun IsOwn place own root l n t ps → length ps ≤ n → IsRunTo IsOwn place own root l t last ps
runs-out IsOwn place own root l n t last ps r lt above =
    let none = none-run IsOwn place own root l n t ps r in
    stopped-good IsOwn place own root l t ps (record {
      own_root = r.own_root;
      own_tasks = r.own_tasks;
      tasks = r.tasks;
      outcomes = r.outcomes;
      counted = r.counted;
      summed = let b = none-spent place (places_in place ps) ps none in let c = r.summed in omega arith;
      spent = λ k c h q. let s = ap ticks_spent (none k c h q) in omega arith;
      above = λ k c h q. absurd (true≢false (sym (r.first k c (omega (arith, h, lt))) ∙ q));
    })

-- only the root waits
pub starts : {H : Type 0} → (IsOwn : H → Type 0) (place : H → List ℕ) (own whole : H → Trace H) → IsReady IsOwn place own whole →
    (root : H) (l : Limits) (t : ℕ)
    (ps : List (Piece H)) → IsOwn root → place root ≡ [] → t ≡ 0 → ps ≡ waiting root ∷ [] → IsRun IsOwn place own root l 0 t ps
starts {H} IsOwn place own whole ready root l t ps o p z e = subst (λ (x : List (Piece H)). IsRun IsOwn place own root l 0 t x) (sym e) (record {
  own_root = o;
  own_tasks = All-cons (λ p. IsOwn p.task) (waiting root) [] o (All-nil (λ p. IsOwn p.task));
  tasks = All-cons (λ p. task_at own (Some root) (place p.task) ≡ Some p.task) (waiting root) [] (ap (task_at own (Some root)) p)
      (All-nil (λ p. task_at own (Some root) (place p.task) ≡ Some p.task));
  outcomes = All-cons (λ p. IfFinished (IsOutcome (own p.task) l) p.outcome) (waiting root) [] tt (All-nil (λ p. IfFinished (IsOutcome
      (own p.task) l) p.outcome));
  begin = All-cons (λ p. BeginsWithTick (own p.task)) (waiting root) [] (ready.root_begins root o p) (All-nil (λ p. BeginsWithTick (own p.task)));
  alone = λ h. omega arith;
  first = λ k d h. absurd (omega (arith, h));
  rest = λ k d h u. waits-at (root ∷ []) k d u;
  counted = λ h. let e : h (place root) ≡ h [] = ap h p in omega arith;
  summed = z;
})

-- ---- claims

none-claimed : {H : Type 0} → (place : H → List ℕ) (ps : List (Piece H)) → ((j : ℕ) (d : Piece H) → j < length ps → (get_or ps j d).outcome ≡ None) →
    claimed_in place ps ≡ []
none-claimed place [] f = refl
none-claimed place (p ∷ ps) f =
    ap (λ (q : Option Outcome). if_run q (place p.task) (claimed_in place ps)) (f 0 p (omega arith))
    ∙ none-claimed place ps (λ j d l. f (suc j) d (omega (arith, l)))

pub run-claimed : {H : Type 0} → (place : H → List ℕ) (ps : List (Piece H)) (n : ℕ) (o : Outcome) (d : Piece H) → n < length ps →
    ((j : ℕ) (d : Piece H) → n ≤ j → j < length ps → (get_or ps j d).outcome ≡ None) →
    claimed_in place (ran_at n o ps) ≡ claimed_in place ps ++ place (get_or ps n d).task ∷ []
run-claimed place [] n o d h f = absurd (omega (arith, h))
run-claimed place (p ∷ ps) zero o d h f =
    ap (λ z. place p.task ∷ z) (none-claimed place ps (λ j d l. f (suc j) d (omega arith) (omega (arith, l))))
    ∙ sym (ap (λ (q : Option Outcome). if_run q (place p.task) (claimed_in place ps) ++ place p.task ∷ []) (f 0 p (omega arith) (omega arith))
    ∙ ap (λ z. z ++ place p.task ∷ []) (none-claimed place ps (λ j d l. f (suc j) d (omega arith) (omega (arith, l)))))
run-claimed place (p ∷ ps) (suc n) o d h f =
    ap (if_run p.outcome (place p.task)) (run-claimed place ps n o d (omega (arith, h)) (λ j d l m. f (suc j) d (omega (arith, l)) (omega (arith, m))))
    ∙ by p.outcome
  where
    by : (q : Option Outcome) → if_run q (place p.task) (claimed_in place ps ++ place (get_or ps n d).task ∷ []) ≡
        if_run q (place p.task) (claimed_in place ps) ++ place (get_or ps n d).task ∷ []
    by None = refl
    by (Some o) = refl

pub waiting-claimed : {H : Type 0} → (place : H → List ℕ) (ps : List (Piece H)) (ts : List H) → claimed_in place (ps ++ map waiting ts) ≡ claimed_in place ps
waiting-claimed place [] [] = refl
waiting-claimed place [] (t ∷ ts) = waiting-claimed place [] ts
waiting-claimed place (p ∷ ps) ts = ap (if_run p.outcome (place p.task)) (waiting-claimed place ps ts)

pub total-map : {A B : Type 0} → (f : B → ℕ) (g : A → B) (xs : List A) → total (λ x. f (g x)) xs ≡ total f (map g xs)
total-map f g [] = refl
total-map f g (x ∷ xs) = ap (λ n. f (g x) + n) (total-map f g xs)

-- one claim for each piece that was run, in order, all by the first worker
pub are-claims : {H : Type 0} → (place : H → List ℕ) (ps : List (Piece H)) (cs : List Claim) → map (λ c. c.place) cs ≡ claimed_in place ps →
    All (λ c. c.worker ≡ 0) cs → AreClaims place 1 ps cs
are-claims place ps cs h w = record {
  places = λ weight. total-map weight (λ (c : Claim). c.place) cs ∙ ap (total weight) h;
  workers = λ k d l. let e : (get_or cs k d).worker ≡ 0 = w k d l in omega (arith, e);
  root = λ k d l z. w k d l;
}

-- one more
pub claims-run : {H : Type 0} → (place : H → List ℕ) (ps : List (Piece H)) (n : ℕ) (o : Outcome) (p : Piece H) (cs ds : List Claim) (c : Claim) →
    n < length ps → ((j : ℕ) (d : Piece H) → n ≤ j → j < length ps → (get_or ps j d).outcome ≡ None) → p ≡ get_or ps n p →
    map (λ (x : Claim). x.place) cs ≡ claimed_in place ps → ds ≡ cs ++ c ∷ [] → c.place ≡ place p.task →
    map (λ (x : Claim). x.place) ds ≡ claimed_in place (ran_at n o ps)
claims-run {H} place ps n o p cs ds c lt rest at h e f =
    ap (map (λ (x : Claim). x.place)) e ∙ map-append (λ (x : Claim). x.place) cs (c ∷ []) ∙ ap (λ (x : List (List ℕ)). x ++ c.place ∷ []) h
    ∙ ap (λ (x : List ℕ). claimed_in place ps ++ x ∷ []) (f ∙ ap (λ (x : Piece H). place x.task) at)
    ∙ sym (run-claimed place ps n o p lt rest)

pub claims-next : {H : Type 0} → (place : H → List ℕ) (ps qs : List (Piece H)) (ts : List H) (o : Outcome) (n : ℕ) (cs : List (List ℕ)) →
    cs ≡ claimed_in place (ran_at n o ps) → qs ≡ ran_at n o ps ++ map waiting ts → cs ≡ claimed_in place qs
claims-next place ps qs ts o n cs h e = h ∙ sym (ap (claimed_in place) e ∙ waiting-claimed place (ran_at n o ps) ts)

pub workers-more : (cs ds : List Claim) (c : Claim) → All (λ (x : Claim). x.worker ≡ 0) cs → ds ≡ cs ++ c ∷ [] → c.worker ≡ 0 →
    All (λ (x : Claim). x.worker ≡ 0) ds
workers-more cs ds c h e w = subst (All (λ (x : Claim). x.worker ≡ 0)) (sym e)
    (All-append (λ (x : Claim). x.worker ≡ 0) cs (c ∷ []) h (All-cons (λ (x : Claim). x.worker ≡ 0) c [] w (All-nil (λ (x : Claim). x.worker ≡ 0))))

-- what comes next is less
pub smaller : (t before after last n len : ℕ) → before ≤ last → last ≤ t → before ≤ after → (0 < t → before < after) → (t ≡ 0 → len ≤ 1) → n < len →
    (t + 1 - after) + (1 - (n + 1)) < (t + 1 - before) + (1 - n)
smaller zero before after last n len a b c d e f = let g = e refl in omega (arith, a, b, c, g, f)
smaller (suc t) before after last n len a b c d e f = let g = d (omega arith) in omega (arith, a, b, c, g, f)

pub as-ran : {H : Type 0} → (IsOwn : H → Type 0) (place : H → List ℕ) (own : H → Trace H) (root : H) (l : Limits) (n before after last : ℕ)
    (b c : Bool) (ps qs : List (Piece H)) → b ≡ c → IsNext IsOwn place own root l n before after last b ps qs →
    IsNext IsOwn place own root l n before after last c ps qs
as-ran {H} IsOwn place own root l n before after last b c ps qs e i =
    subst (λ (x : Bool). IsNext IsOwn place own root l n before after last x ps qs) e i

-- before the first piece is run, nobody claims
pub none-claims : {H : Type 0} → (place : H → List ℕ) (root : H) (ps : List (Piece H)) (cs : List Claim) → ps ≡ waiting root ∷ [] → cs ≡ [] →
    map (λ (x : Claim). x.place) cs ≡ claimed_in place ps
none-claims {H} place root ps cs e f = ap (map (λ (x : Claim). x.place)) f ∙ sym (ap (claimed_in place) e)
