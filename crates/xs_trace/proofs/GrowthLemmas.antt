-- What was reported stays at the beginning of what is reported; and so, where a part ends, the whole ends.
use Rattle.std.proofs.Common.{◌≡◌, ℕ, zero, suc, ◌+◌, ◌-◌, ◌/◌, length, List, [], ◌∷◌, ◌++◌, Option, Some, None, Result, Err, Bool, true, false, cond}
use Rattle.std.proofs.Common.{refl, sym, ap, subst, ◌∙◌, append_assoc, append-nil, arith}
use Rattle.std.proofs.lemmas.Bool.{true≢false}
use Rattle.std.proofs.lemmas.Bool.Decides.{nat_tests}
use Rattle.xs_trace.specs.Event.{text_of}
use Rattle.xs_trace.specs.Mark.{Mark, Tick, Put, Say, Stop, Need, Hole, Trace, ticks, tick_count, untimed}
use Rattle.xs_trace.specs.Cut.{End, Fault as CutFault, Needs as CutNeeds, Spent as CutSpent, Full as CutFull, less}
use Rattle.xs_trace.specs.State.{State, Log, Nothing, All, Untimed, allows, adds, said, shown, place, passed}
use Rattle.xs_trace.specs.Play.{Step, Goes, Ends, goes, stops, and_then, ticked, ticked_by, number, put_in, put, put_at, said_at, play, reported_of}
use Rattle.xs_trace.specs.Play.{left_of, shared_of, raised, Before, IsStepBy}
use Rattle.xs_trace.specs.PlayLaws.{Extends}
use Rattle.xs_trace.specs.declared.event.Event.{Event}
use Rattle.xs_trace.specs.declared.item.Site.{Site}
use Rattle.xs_trace.specs.declared.recorder.Halt.{Halt}
use Rattle.xs_trace.specs.declared.recorder.Halt.TheVariants.{Fault, Needs, Spent, Full, Over, NoMemory}
use Rattle.xs_trace.proofs.CutLemmas.{parts-join}

pub adds-nil : {H : Type 0} → (l : Log H) → adds l [] ≡ l
adds-nil Nothing = refl
adds-nil (All t) = ap All (append-nil t)
adds-nil (Untimed t) = ap Untimed (append-nil t)

untimed-join : {H : Type 0} → (a b : Trace H) → untimed (a ++ b) ≡ untimed a ++ untimed b
untimed-join [] b = refl
untimed-join (Tick p ∷ a) b = untimed-join a b
untimed-join (Put e ∷ a) b = ap (λ x. Put e ∷ x) (untimed-join a b)
untimed-join (Say t ∷ a) b = ap (λ x. Say t ∷ x) (untimed-join a b)
untimed-join (Stop f p ∷ a) b = ap (λ x. Stop f p ∷ x) (untimed-join a b)
untimed-join (Need v p ∷ a) b = ap (λ x. Need v p ∷ x) (untimed-join a b)
untimed-join (Hole k ∷ a) b = ap (λ x. Hole k ∷ x) (untimed-join a b)

pub adds-adds : {H : Type 0} → (l : Log H) (a b : Trace H) → adds (adds l a) b ≡ adds l (a ++ b)
adds-adds Nothing a b = refl
adds-adds (All t) a b = ap All (append_assoc t a b)
adds-adds (Untimed t) a b = ap Untimed (append_assoc t (untimed a) (untimed b) ∙ ap (λ x. t ++ x) (sym (untimed-join a b)))

-- tick counts
pub count-ticks : (H : Type 0) (p : Site) (n : ℕ) → tick_count {H = H} (ticks p n []) ≡ n
count-ticks H p zero = refl
count-ticks H p (suc n) = ap suc (count-ticks H p n)

raised-none : (o : Option ℕ) → o ≡ raised o 0
raised-none None = refl
raised-none (Some m) = let e : m ≡ m + 0 = omega arith in ap Some e

raised-more : (o : Option ℕ) (a b : ℕ) → raised (raised o b) a ≡ raised o (a + b)
raised-more None a b = refl
raised-more (Some m) a b = let e : (m + b) + a ≡ m + (a + b) = omega arith in ap Some e

pub raised-less : (o : Option ℕ) (n : ℕ) → allows o n ≡ true → o ≡ raised (less o n) n
raised-less None n h = refl
raised-less (Some m) n h = let e : m ≡ (m - n) + n = grind (arith, nat_tests, h) in ap Some e

pub one-left : (o : Option ℕ) → allows o 1 ≡ false → o ≡ Some 0
one-left None h = absurd (true≢false h)
one-left (Some m) h = let e : m ≡ 0 = grind (arith, nat_tests, h) in ap Some e

pub some-left : (o : Option ℕ) (n : ℕ) → allows o n ≡ false → o ≡ raised (Some 0) (number o)
some-left None n h = absurd (true≢false h)
some-left (Some m) n h = let e : m ≡ 0 + m = omega arith in ap Some e

count-both : {H : Type 0} → (x y : Trace H) → tick_count x + tick_count y ≡ tick_count (x ++ y)
count-both x y = sym (parts-join x y).ticks

-- nothing more was reported
pub same : {H : Type 0} → {A : Type 0} (s : State H) (g : Step H A) → reported_of g ≡ s.reported → s.left ≡ left_of g → Before s g
same s g t l = record { rest = []; reported = t ∙ sym (adds-nil s.reported); left = l ∙ raised-none (left_of g) }

pub along : {H : Type 0} → {A : Type 0} (s m : State H) (g : Step H A) (a : Trace H) → m.reported ≡ adds s.reported a → s.left ≡ raised m.left (tick_count a) →
    Before m g → Before s g
along s m g a t l b = record {
  rest = a ++ b.rest;
  reported = b.reported ∙ ap (λ o. adds o b.rest) t ∙ adds-adds s.reported a b.rest;
  left =
      l ∙ ap (λ o. raised o (tick_count a)) b.left ∙ raised-more (left_of g) (tick_count a) (tick_count b.rest) ∙ ap (raised (left_of g)) (count-both a b.rest);
}

-- a step from each state that reports no less than the state
abbrev pub Grows : {H : Type 0} → {A : Type 0} → (State H → Step H A) → Type 0
Grows {H = H} f = (s : State H) → Extends s (f s)

pub before-then : {H : Type 0} → {A B : Type 0} (s : State H) (g : Step H A) (f : A → State H → Step H B) → Before s g → ((x : A) → Grows {H = H} (f x)) →
    Before s (and_then g f)
before-then s (Goes x m) f b k = along s m (f x m) b.rest b.reported b.left (k x m).before
before-then s (Ends e reported left h) f b k = record { rest = b.rest; reported = b.reported; left = b.left }

pub shared-then : {H : Type 0} → {A B : Type 0} (g : Step H A) (f : A → State H → Step H B) → ((x : A) → Grows {H = H} (f x)) →
    shared_of (and_then g f) ≡ shared_of g
shared-then (Goes x m) f k = (k x m).shared
shared-then (Ends e reported left h) f k = refl

pub grows-then : {H : Type 0} → {A B : Type 0} (s : State H) (g : Step H A) (f : A → State H → Step H B) → Extends s g → ((x : A) → Grows {H = H} (f x)) →
    Extends s (and_then g f)
grows-then s g f b k = record { before = before-then s g f b.before k; shared = shared-then g f k ∙ b.shared }

-- one of two
if-grows : {H : Type 0} → {A : Type 0} (s : State H) (b : Bool) (x y : Step H A) → (b ≡ true → Extends s x) → (b ≡ false → Extends s y) → Extends s (cond b x y)
if-grows s true x y p q = p refl
if-grows s false x y p q = q refl

pub stops-grow : {H : Type 0} → {A : Type 0} (e : End) → Grows {H = H} {A = A} (stops e)
stops-grow e s = record { before = same s (stops e s) refl refl; shared = refl }

pub goes-grows : {H : Type 0} → {A : Type 0} (x : A) → Grows {H = H} (Goes x)
goes-grows x s = record { before = same s (Goes x s) refl refl; shared = refl }

pub shown-grows : {H : Type 0} → (k : Mark H) → tick_count (k ∷ []) ≡ 0 → Grows {H = H} (λ s. goes (shown k s))
shown-grows k e s = record { before = record { rest = k ∷ []; reported = refl; left = raised-none s.left ∙ ap (raised s.left) (sym e) }; shared = refl }

pub ticked-grows : {H : Type 0} → (p : Site) → Grows {H = H} (ticked p)
ticked-grows p s = if-grows s (allows s.left 1) _ _
    (λ h. record { before = record { rest = Tick p ∷ []; reported = refl; left = raised-less s.left 1 h }; shared = refl })
    (λ h. record { before = same s (Ends (CutSpent p) s.reported (Some 0) s.shared) refl (one-left s.left h); shared = refl })

pub by-grows : {H : Type 0} → (n : ℕ) (p : Site) → Grows {H = H} (ticked_by n p)
by-grows n p s = if-grows s (allows s.left n) _ _
    (λ h. record {
      before = record {
        rest = ticks p n [];
        reported = refl;
        left = raised-less s.left n h ∙ ap (raised (less s.left n))
            (sym (count-ticks _ p n));
      };
      shared = refl;
    })
    (λ h. record {
      before = record {
        rest = ticks p (number s.left) [];
        reported = refl;
        left = some-left s.left n h ∙ ap (raised (Some 0))
            (sym (count-ticks _ p (number s.left)));
      };
      shared = refl;
    })

put_in-grows : {H : Type 0} → (cs : List (List Event)) (e : Event) (s : State H) → Extends s (put_in cs e s)
put_in-grows [] e s = if-grows s (allows s.room 1) _ _
    (λ h. record { before = record { rest = Put e ∷ []; reported = refl; left = raised-none s.left }; shared = refl })
    (λ h. stops-grow (CutFull (place s.at)) s)
put_in-grows (c ∷ cs) e s = record { before = same s (put_in (c ∷ cs) e s) refl refl; shared = refl }

pub put-grows : {H : Type 0} → (e : Event) → Grows {H = H} (put e)
put-grows e s = put_in-grows s.captures e s

pub said-grows : {H : Type 0} → (t : List ℕ) → Grows {H = H} (λ s. goes (said t s))
said-grows t s = shown-grows (Say t) refl s

pub put_at-grows : {H : Type 0} → (p : Site) (e : Event) → Grows {H = H} (put_at p e)
put_at-grows p e s = grows-then s (ticked_by (length (text_of e) / 256) p s) (λ u m. put e m) (by-grows _ p s) (λ u. put-grows e)

pub said_at-grows : {H : Type 0} → (p : Site) (t : List ℕ) → Grows {H = H} (said_at p t)
said_at-grows p t s = grows-then s (ticked_by (length t / 256) p s) (λ u m. goes (said t m)) (by-grows _ p s) (λ u. said-grows t)

pub play-grows : {H : Type 0} → (x : Trace H) → Grows {H = H} (play x)
play-grows [] s = goes-grows tt s
play-grows (Tick p ∷ x) s = grows-then s (ticked p s) (λ u m. play x m) (ticked-grows p s) (λ u. play-grows x)
play-grows (Put e ∷ x) s = grows-then s (put e s) (λ u m. play x m) (put-grows e s) (λ u. play-grows x)
play-grows (Say t ∷ x) s = grows-then s (goes (said t s)) (λ u m. play x m) (said-grows t s) (λ u. play-grows x)
play-grows (Stop f p ∷ x) s = stops-grow (CutFault f p) s
play-grows (Need v p ∷ x) s = stops-grow (CutNeeds v p) s
play-grows (Hole k ∷ x) s = grows-then s (goes (shown (Hole k) s)) (λ u m. play x m) (shown-grows (Hole k) refl s) (λ u. play-grows x)

-- The same end, of a call that passes it on.
pub then-exit : {H : Type 0} → {A B C D : Type 0} (v : C → A) (w : D → B) (g : Step H A) (f : A → State H → Step H B) (h : Halt) (s : State H) →
    ((x : A) → Grows {H = H} (f x)) → IsStepBy v g (Err h) s → IsStepBy w (and_then g f) (Err h) s
then-exit v w g f (Fault n p) s k q = ap (λ j. and_then j f) q
then-exit v w g f (Needs n p) s k q = ap (λ j. and_then j f) q
then-exit v w g f (Spent p) s k q = ap (λ j. and_then j f) q
then-exit v w g f (Full p) s k q = ap (λ j. and_then j f) q
then-exit v w g f (Over t) s k q =
    record {
      above = q.above;
      first = ap (λ h. h.above) (shared-then g f k) ∙ q.first;
      shared = q.shared ∙ ap (passed t s.left) (sym (shared-then g f k));
      before = before-then s g f q.before k;
    }
then-exit v w g f NoMemory s k q = tt

pub because : {H : Type 0} → {A B : Type 0} (v : B → A) (g : Step H A) (s : State H) (result : Result B Halt) (y h : Halt) → result ≡ Err y → y ≡ h →
    IsStepBy v g (Err h) s → IsStepBy v g result s
because {H} {A} {B} v g s result y h a b q = subst (λ (r : Result B Halt). IsStepBy v g r s) (sym (a ∙ ap Err b)) q

-- A `?` passes an end on: the whole is equal to the part and what follows.
pub passes : {H : Type 0} →
    {A B C D : Type 0} (v : C → A) (w : D → B) (k : Step H B) (g : Step H A) (f : A → State H → Step H B) (s : State H) (result : Result D Halt) (y h : Halt) →
    k ≡ and_then g f → ((x : A) → Grows {H = H} (f x)) → result ≡ Err y → y ≡ h → IsStepBy v g (Err h) s → IsStepBy w k result s
passes {H} {A} {B} {C} {D} v w k g f s result y h e grow a b q =
    because w k s result y h a b (subst (λ (j : Step H B). IsStepBy w j (Err h) s) (sym e) (then-exit v w g f h s grow q))
