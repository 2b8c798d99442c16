-- The relation of a step and the function of it say the same.
use Rattle.std.proofs.Common.{◌≡◌, ◌<◌, ◌≤◌, ◌+◌, ℕ, List, [], ◌∷◌, ◌++◌, slice_get, Option, Some, None, Bool, true, false, cond, nat_lt, nat_le, eqb}
use Rattle.std.proofs.Common.{refl, sym, ap, subst, ◌∙◌, arith}
use Rattle.std.proofs.lemmas.Bool.Decides.{nat_tests}
use Rattle.xs_core.specs.declared.piece.Progress.{Progress}
use Rattle.xs_core.specs.declared.step.Step.{Step}
use Rattle.xs_core.specs.declared.step.Step.TheVariants.{Take, Steal, Miss, Give, Spend, Finish, Discard}
use Rattle.xs_core.specs.Machine.{Place, Facts, Worker, State, IsStep, worker, fresh, next_child, Has}
use Rattle.xs_core.specs.Machine.IsStep.{takes, steals, misses, gives, spends, finishes, drops, drops_first}
use Rattle.xs_core.specs.Laws.{OneState}
use Rattle.std.specs.Option.{is_some}
use Rattle.xs_core.specs.steps.Parts.{IsChanged}
use Rattle.xs_core.specs.steps.Stepped.{stepped, at_worker, put, put_total, put_finished, put_dropped, last_from, took}
use Rattle.xs_core.specs.steps.Stepped.{gave, spent, done, let_go, stolen, missed}

-- ---- tests

not-same : (t v : ℕ) (c : Bool) → eqb t v ≡ c → ¬ t ≡ v → eqb t v ≡ false
not-same t v false e ne = e
not-same t v true e ne = absurd (ne (grind (arith, nat_tests, e)))

differ : (t v : ℕ) → eqb t v ≡ false → ¬ t ≡ v
differ t v e = λ same. grind (arith, nat_tests, e, same)

equal : (a c : ℕ) → a ≡ c → eqb a c ≡ true
equal a c e = grind (arith, nat_tests, e)

equal-from : (a c : ℕ) → eqb a c ≡ true → a ≡ c
equal-from a c e = grind (arith, nat_tests, e)

below : (a c : ℕ) → a < c → nat_lt a c ≡ true
below a c e = grind (arith, nat_tests, e)

below-from : (a c : ℕ) → nat_lt a c ≡ true → a < c
below-from a c e = grind (arith, nat_tests, e)

within : (a c : ℕ) → a ≤ c → nat_le a c ≡ true
within a c e = grind (arith, nat_tests, e)

within-from : (a c : ℕ) → nat_le a c ≡ true → a ≤ c
within-from a c e = grind (arith, nat_tests, e)

-- ---- the last place of a deque

last-pushed : (q : Place) (ps : List Place) (p : Place) → last_from q (ps ++ p ∷ []) ≡ (q ∷ ps, p)
last-pushed q [] p = refl
last-pushed q (r ∷ ps) p = ap (λ (e : List Place × Place). (q ∷ e.0, e.1)) (last-pushed r ps p)

pub took-last : (ps : List Place) (p : Place) → took None (ps ++ p ∷ []) ≡ Some (worker ps (Some (fresh p)))
took-last [] p = refl
took-last (q ∷ ps) p = ap (λ (e : List Place × Place). Some (worker e.0 (Some (fresh e.1)))) (last-pushed q ps p)

last-parts : (p : Place) (ps : List Place) → p ∷ ps ≡ (last_from p ps).0 ++ (last_from p ps).1 ∷ []
last-parts p [] = refl
last-parts p (q ∷ ps) = ap (λ t. p ∷ t) (last-parts q ps)

-- ---- from the relation

pub stepped-from : (f : Facts) (b : ℕ) (s n : State) (step : Step) → IsStep f b s step n → stepped f b step s ≡ Some n
stepped-from f b s n step (takes w p ps at) =
    ap (λ o. at_worker o (λ x. put w s (took x.hand x.deque))) at ∙ ap (put w s) (took-last ps p)
stepped-from f b s n step (steals t v p ps hand ne thief victim) =
    ap (λ c. cond c None (at_worker (slice_get s.workers t) (λ x. at_worker (slice_get s.workers v) (λ y. stolen t v s x.hand x.deque y.hand y.deque))))
    (not-same t v (eqb t v) refl ne)
    ∙ ap (λ o. at_worker o (λ x. at_worker (slice_get s.workers v) (λ y. stolen t v s x.hand x.deque y.hand y.deque))) thief
    ∙ ap (λ o. at_worker o (λ y. stolen t v s None [] y.hand y.deque)) victim
stepped-from f b s n step (misses t v ps hand ne thief victim) =
    ap (λ c. cond c None (at_worker (slice_get s.workers t) (λ x. at_worker (slice_get s.workers v) (λ y. missed s x.hand y.deque))))
    (not-same t v (eqb t v) refl ne)
    ∙ ap (λ o. at_worker o (λ x. at_worker (slice_get s.workers v) (λ y. missed s x.hand y.deque))) thief
    ∙ ap (λ o. at_worker o (λ y. missed s None y.deque)) victim
stepped-from f b s n step (gives w ps h at fewer) =
    ap (λ o. at_worker o (λ x. put w s (gave f x.hand x.deque))) at
    ∙ ap (λ c. put w s (cond c (Some (worker (ps ++ (h.place ++ next_child f h ∷ []) ∷ []) (Some (record h { given = h.given + 1 })))) None))
    (below h.given (f.holes h.place) fewer)
stepped-from f b s n step (spends w i ps h at most) =
    ap (λ o. at_worker o (λ x. put_total i (put w s (spent f i x.hand x.deque)))) at
    ∙ ap (λ c. put_total i (put w s (cond c (Some (worker ps (Some (record h { spent = h.spent + i })))) None)))
    (within (h.spent + i) (f.ticks h.place) most)
stepped-from f b s n step (finishes w ps h at ticks holes) =
    ap (λ o. at_worker o (λ x. put_finished w x.deque s (done f x.hand))) at
    ∙ ap (λ c. put_finished w ps s (cond c (cond (eqb h.given (f.holes h.place)) (Some h) None) None)) (equal h.spent (f.ticks h.place) ticks)
    ∙ ap (λ c. put_finished w ps s (cond c (Some h) None)) (equal h.given (f.holes h.place) holes)
stepped-from f b s n step (drops w ps h over at) =
    ap (λ c. cond c (at_worker (slice_get s.workers w) (λ x. put_dropped w s (let_go x.hand x.deque))) None) (below b s.total over)
    ∙ ap (λ o. at_worker o (λ x. put_dropped w s (let_go x.hand x.deque))) at
stepped-from f b s n step (drops_first w p ps over at) =
    ap (λ c. cond c (at_worker (slice_get s.workers w) (λ x. put_dropped w s (let_go x.hand x.deque))) None) (below b s.total over)
    ∙ ap (λ o. at_worker o (λ x. put_dropped w s (let_go x.hand x.deque))) at

at-some : (m n : State) → Some m ≡ Some n → m ≡ n
at-some m n e = cc

pub one-state : OneState
one-state f b s m n step one other = at-some m n (sym (stepped-from f b s m step one) ∙ stepped-from f b s n step other)

-- ---- to the relation

lead : (f : Facts) (b : ℕ) (step : Step) (s m n : State) → Some m ≡ Some n → IsStep f b s step m → IsStep f b s step n
lead f b step s m n e k = subst (λ (z : State). IsStep f b s step z) (at-some m n e) k

take-by : (f : Facts) (b w : ℕ) (ps : List Place) (hand : Option Progress) (s n : State) → Has s w ps hand → put w s (took hand ps) ≡ Some n
    → IsStep f b s (Take w) n
take-by f b w ps (Some h) s n at e = absurd (cc)
take-by f b w [] None s n at e = absurd (cc)
take-by f b w (p ∷ ps) None s n at e =
    lead f b (Take w) s _ n e (takes w (last_from p ps).1 (last_from p ps).0 (subst (λ (d : List Place). Has s w d None) (last-parts p ps) at))

take-at : (f : Facts) (b w : ℕ) (o : Option Worker) (s n : State) → slice_get s.workers w ≡ o
    → at_worker o (λ x. put w s (took x.hand x.deque)) ≡ Some n → IsStep f b s (Take w) n
take-at f b w None s n at e = absurd (cc)
take-at f b w (Some x) s n at e = take-by f b w x.deque x.hand s n at e

steal-by : (f : Facts) (b t v : ℕ) (ds ps : List Place) (free hand : Option Progress) (s n : State) → ¬ t ≡ v → Has s t ds free → Has s v ps hand
    → stolen t v s free ds hand ps ≡ Some n → IsStep f b s (Steal t v) n
steal-by f b t v ds ps (Some h) hand s n ne thief victim e = absurd (cc)
steal-by f b t v (d ∷ ds) ps None hand s n ne thief victim e = absurd (cc)
steal-by f b t v [] [] None hand s n ne thief victim e = absurd (cc)
steal-by f b t v [] (p ∷ ps) None hand s n ne thief victim e = lead f b (Steal t v) s _ n e (steals t v p ps hand ne thief victim)

steal-at : (f : Facts) (b t v : ℕ) (o u : Option Worker) (s n : State) → ¬ t ≡ v → slice_get s.workers t ≡ o → slice_get s.workers v ≡ u
    → at_worker o (λ x. at_worker u (λ y. stolen t v s x.hand x.deque y.hand y.deque)) ≡ Some n → IsStep f b s (Steal t v) n
steal-at f b t v None u s n ne thief victim e = absurd (cc)
steal-at f b t v (Some x) None s n ne thief victim e = absurd (cc)
steal-at f b t v (Some x) (Some y) s n ne thief victim e = steal-by f b t v x.deque y.deque x.hand y.hand s n ne thief victim e

steal-if : (f : Facts) (b t v : ℕ) (c : Bool) (s n : State) → eqb t v ≡ c
    → cond c None (at_worker (slice_get s.workers t) (λ x. at_worker (slice_get s.workers v) (λ y. stolen t v s x.hand x.deque y.hand y.deque))) ≡ Some n
    → IsStep f b s (Steal t v) n
steal-if f b t v true s n is e = absurd (cc)
steal-if f b t v false s n is e = steal-at f b t v (slice_get s.workers t) (slice_get s.workers v) s n (differ t v is) refl refl e

miss-by : (f : Facts) (b t v : ℕ) (ds ps : List Place) (free hand : Option Progress) (s n : State) → ¬ t ≡ v → Has s t ds free → Has s v ps hand
    → missed s free ps ≡ Some n → IsStep f b s (Miss t v) n
miss-by f b t v ds ps (Some h) hand s n ne thief victim e = absurd (cc)
miss-by f b t v ds (p ∷ ps) None hand s n ne thief victim e = absurd (cc)
miss-by f b t v ds [] None hand s n ne thief victim e = lead f b (Miss t v) s s n e (misses t v ds hand ne thief victim)

miss-at : (f : Facts) (b t v : ℕ) (o u : Option Worker) (s n : State) → ¬ t ≡ v → slice_get s.workers t ≡ o → slice_get s.workers v ≡ u
    → at_worker o (λ x. at_worker u (λ y. missed s x.hand y.deque)) ≡ Some n → IsStep f b s (Miss t v) n
miss-at f b t v None u s n ne thief victim e = absurd (cc)
miss-at f b t v (Some x) None s n ne thief victim e = absurd (cc)
miss-at f b t v (Some x) (Some y) s n ne thief victim e = miss-by f b t v x.deque y.deque x.hand y.hand s n ne thief victim e

miss-if : (f : Facts) (b t v : ℕ) (c : Bool) (s n : State) → eqb t v ≡ c
    → cond c None (at_worker (slice_get s.workers t) (λ x. at_worker (slice_get s.workers v) (λ y. missed s x.hand y.deque))) ≡ Some n
    → IsStep f b s (Miss t v) n
miss-if f b t v true s n is e = absurd (cc)
miss-if f b t v false s n is e = miss-at f b t v (slice_get s.workers t) (slice_get s.workers v) s n (differ t v is) refl refl e

give-if : (f : Facts) (b w : ℕ) (ps : List Place) (h : Progress) (c : Bool) (s n : State) → Has s w ps (Some h) → nat_lt h.given (f.holes h.place) ≡ c
    → put w s (cond c (Some (worker (ps ++ (h.place ++ next_child f h ∷ []) ∷ []) (Some (record h { given = h.given + 1 })))) None) ≡ Some n
    → IsStep f b s (Give w) n
give-if f b w ps h false s n at is e = absurd (cc)
give-if f b w ps h true s n at is e = lead f b (Give w) s _ n e (gives w ps h at (below-from h.given (f.holes h.place) is))

give-by : (f : Facts) (b w : ℕ) (ps : List Place) (hand : Option Progress) (s n : State) → Has s w ps hand → put w s (gave f hand ps) ≡ Some n
    → IsStep f b s (Give w) n
give-by f b w ps None s n at e = absurd (cc)
give-by f b w ps (Some h) s n at e = give-if f b w ps h (nat_lt h.given (f.holes h.place)) s n at refl e

give-at : (f : Facts) (b w : ℕ) (o : Option Worker) (s n : State) → slice_get s.workers w ≡ o
    → at_worker o (λ x. put w s (gave f x.hand x.deque)) ≡ Some n → IsStep f b s (Give w) n
give-at f b w None s n at e = absurd (cc)
give-at f b w (Some x) s n at e = give-by f b w x.deque x.hand s n at e

spend-if : (f : Facts) (b w i : ℕ) (ps : List Place) (h : Progress) (c : Bool) (s n : State) → Has s w ps (Some h)
    → nat_le (h.spent + i) (f.ticks h.place) ≡ c
    → put_total i (put w s (cond c (Some (worker ps (Some (record h { spent = h.spent + i })))) None)) ≡ Some n
    → IsStep f b s (Spend w i) n
spend-if f b w i ps h false s n at is e = absurd (cc)
spend-if f b w i ps h true s n at is e = lead f b (Spend w i) s _ n e (spends w i ps h at (within-from (h.spent + i) (f.ticks h.place) is))

spend-by : (f : Facts) (b w i : ℕ) (ps : List Place) (hand : Option Progress) (s n : State) → Has s w ps hand
    → put_total i (put w s (spent f i hand ps)) ≡ Some n → IsStep f b s (Spend w i) n
spend-by f b w i ps None s n at e = absurd (cc)
spend-by f b w i ps (Some h) s n at e = spend-if f b w i ps h (nat_le (h.spent + i) (f.ticks h.place)) s n at refl e

spend-at : (f : Facts) (b w i : ℕ) (o : Option Worker) (s n : State) → slice_get s.workers w ≡ o
    → at_worker o (λ x. put_total i (put w s (spent f i x.hand x.deque))) ≡ Some n → IsStep f b s (Spend w i) n
spend-at f b w i None s n at e = absurd (cc)
spend-at f b w i (Some x) s n at e = spend-by f b w i x.deque x.hand s n at e

finish-if : (f : Facts) (b w : ℕ) (ps : List Place) (h : Progress) (c d : Bool) (s n : State) → Has s w ps (Some h) → eqb h.spent (f.ticks h.place) ≡ c
    → eqb h.given (f.holes h.place) ≡ d → put_finished w ps s (cond c (cond d (Some h) None) None) ≡ Some n → IsStep f b s (Finish w) n
finish-if f b w ps h false d s n at ticks holes e = absurd (cc)
finish-if f b w ps h true false s n at ticks holes e = absurd (cc)
finish-if f b w ps h true true s n at ticks holes e =
    lead f b (Finish w) s _ n e (finishes w ps h at (equal-from h.spent (f.ticks h.place) ticks) (equal-from h.given (f.holes h.place) holes))

finish-by : (f : Facts) (b w : ℕ) (ps : List Place) (hand : Option Progress) (s n : State) → Has s w ps hand
    → put_finished w ps s (done f hand) ≡ Some n → IsStep f b s (Finish w) n
finish-by f b w ps None s n at e = absurd (cc)
finish-by f b w ps (Some h) s n at e = finish-if f b w ps h (eqb h.spent (f.ticks h.place)) (eqb h.given (f.holes h.place)) s n at refl refl e

finish-at : (f : Facts) (b w : ℕ) (o : Option Worker) (s n : State) → slice_get s.workers w ≡ o
    → at_worker o (λ x. put_finished w x.deque s (done f x.hand)) ≡ Some n → IsStep f b s (Finish w) n
finish-at f b w None s n at e = absurd (cc)
finish-at f b w (Some x) s n at e = finish-by f b w x.deque x.hand s n at e

drop-by : (f : Facts) (b w : ℕ) (ps : List Place) (hand : Option Progress) (s n : State) → b < s.total → Has s w ps hand
    → put_dropped w s (let_go hand ps) ≡ Some n → IsStep f b s (Discard w) n
drop-by f b w ps (Some h) s n over at e = lead f b (Discard w) s _ n e (drops w ps h over at)
drop-by f b w [] None s n over at e = absurd (cc)
drop-by f b w (p ∷ ps) None s n over at e = lead f b (Discard w) s _ n e (drops_first w p ps over at)

drop-at : (f : Facts) (b w : ℕ) (o : Option Worker) (s n : State) → b < s.total → slice_get s.workers w ≡ o
    → at_worker o (λ x. put_dropped w s (let_go x.hand x.deque)) ≡ Some n → IsStep f b s (Discard w) n
drop-at f b w None s n over at e = absurd (cc)
drop-at f b w (Some x) s n over at e = drop-by f b w x.deque x.hand s n over at e

drop-if : (f : Facts) (b w : ℕ) (c : Bool) (s n : State) → nat_lt b s.total ≡ c
    → cond c (at_worker (slice_get s.workers w) (λ x. put_dropped w s (let_go x.hand x.deque))) None ≡ Some n → IsStep f b s (Discard w) n
drop-if f b w false s n is e = absurd (cc)
drop-if f b w true s n is e = drop-at f b w (slice_get s.workers w) s n (below-from b s.total is) refl e

pub step-from : (f : Facts) (b : ℕ) (s n : State) (step : Step) → stepped f b step s ≡ Some n → IsStep f b s step n
step-from f b s n (Take w) e = take-at f b w (slice_get s.workers w) s n refl e
step-from f b s n (Steal t v) e = steal-if f b t v (eqb t v) s n refl e
step-from f b s n (Miss t v) e = miss-if f b t v (eqb t v) s n refl e
step-from f b s n (Give w) e = give-at f b w (slice_get s.workers w) s n refl e
step-from f b s n (Spend w i) e = spend-at f b w i (slice_get s.workers w) s n refl e
step-from f b s n (Finish w) e = finish-at f b w (slice_get s.workers w) s n refl e
step-from f b s n (Discard w) e = drop-if f b w (nat_lt b s.total) s n refl e

-- ---- a seat that takes

no-hand : (o : Option Progress) → false ≡ is_some o → o ≡ None
no-hand None e = refl
no-hand (Some h) e = absurd (cc)

-- a worker whose hand was empty took the last place of its deque
pub took-by : (s n : Worker) (hand : Option Progress) (ds ps : List Place) (p : Place) → worker ds hand ≡ s → false ≡ is_some hand → ds ≡ ps ++ p ∷ []
    → n ≡ worker ps (Some (fresh p)) → IsChanged (took s.hand s.deque) true s n
took-by s n hand ds ps p view none last is =
    let e : took s.hand s.deque ≡ Some (worker ps (Some (fresh p))) =
    ap (λ (x : Worker). took x.hand x.deque) (sym view) ∙ ap (λ o. took o ds) (no-hand hand none) ∙ ap (took None) last ∙ took-last ps p in
    subst (λ (o : Option Worker). IsChanged o true s n) (sym e) (refl, is)
