-- A good state has spent no more ticks than all facts have together, so the total has room for a step.
use Rattle.std.proofs.Common.{◌≡◌, ◌<◌, ◌≤◌, ◌+◌, ℕ, zero, suc, List, [], ◌∷◌, length, get_or, Option, Some, None, Bool, true, false, cond, eqb}
use Rattle.std.proofs.Common.{refl, sym, ap, ◌∙◌, arith}
use Rattle.std.proofs.lemmas.Bool.Decides.{nat_tests}
use Rattle.std.proofs.lemmas.Slice.Eq.{bytes_eq-Decides}
use Rattle.std.specs.Str.{bytes_eq}
use Rattle.xs_core.specs.declared.piece.PieceFacts.{PieceFacts}
use Rattle.xs_core.specs.declared.piece.Progress.{Progress}
use Rattle.xs_core.specs.declared.step.Step.TheVariants.{Spend}
use Rattle.xs_core.specs.Facts.{facts_of, find_facts, ticks_in}
use Rattle.xs_core.specs.Machine.{Place, Facts, Worker, State, with, with_total}
use Rattle.xs_core.specs.Good.{total, of_hand, places_of, held, HandWithin, HandsWithin, PiecesWithin, IsGood, is_place}
use Rattle.xs_core.specs.steps.Parts.{IsChanged}
use Rattle.xs_core.specs.steps.Stepped.{spent, stepped}
use Rattle.xs_core.proofs.AnswerLemmas.{good-by}
use Rattle.xs_core.proofs.OnceLemmas.{one-part}
use Rattle.xs_core.proofs.PartsLemmas.{total-yes}
use Rattle.xs_core.proofs.SumLemmas.{total-add, total-less, total-none}

-- ---- sums over a state

hand-add : (f g h : Progress → ℕ) → ((x : Progress) → h x ≡ f x + g x) → (o : Option Progress) → of_hand h o ≡ of_hand f o + of_hand g o
hand-add f g h e None = omega arith
hand-add f g h e (Some x) = e x

places-add : (f g h : Place → ℕ) → ((p : Place) → h p ≡ f p + g p) → (w : Worker) → places_of h w ≡ places_of f w + places_of g w
places-add f g h e w =
    let a = total-add f g h e w.deque in
    let b = hand-add (λ x. f x.place) (λ x. g x.place) (λ x. h x.place) (λ x. e x.place) w.hand in
    omega arith

held-add : (f g h : Place → ℕ) → ((p : Place) → h p ≡ f p + g p) → (s : State) → held h s ≡ held f s + held g s
held-add f g h e s =
    let a = total-add (places_of f) (places_of g) (places_of h) (places-add f g h e) s.workers in
    let b = total-add f g h e s.finished in
    let c = total-add (λ (x : Progress). f x.place) (λ x. g x.place) (λ x. h x.place) (λ x. e x.place) s.dropped in
    omega arith

hand-less : (f g : Progress → ℕ) → ((x : Progress) → f x ≤ g x) → (o : Option Progress) → of_hand f o ≤ of_hand g o
hand-less f g h None = omega arith
hand-less f g h (Some x) = h x

places-less : (f g : Place → ℕ) → ((p : Place) → f p ≤ g p) → (w : Worker) → places_of f w ≤ places_of g w
places-less f g h w =
    let a = total-less f g h w.deque in
    let b = hand-less (λ x. f x.place) (λ x. g x.place) (λ x. h x.place) w.hand in
    omega arith

held-less : (f g : Place → ℕ) → ((p : Place) → f p ≤ g p) → (s : State) → held f s ≤ held g s
held-less f g h s =
    let a = total-less (places_of f) (places_of g) (places-less f g h) s.workers in
    let b = total-less f g h s.finished in
    let c = total-less (λ (x : Progress). f x.place) (λ x. g x.place) (λ x. h x.place) s.dropped in
    omega arith

hand-none : (f : Progress → ℕ) → ((x : Progress) → f x ≡ 0) → (o : Option Progress) → of_hand f o ≡ 0
hand-none f h None = refl
hand-none f h (Some x) = h x

places-none : (f : Place → ℕ) → ((p : Place) → f p ≡ 0) → (w : Worker) → places_of f w ≡ 0
places-none f h w =
    let a = total-none f h w.deque in
    let b = hand-none (λ x. f x.place) (λ x. h x.place) w.hand in
    omega arith

held-none : (f : Place → ℕ) → ((p : Place) → f p ≡ 0) → (s : State) → held f s ≡ 0
held-none f h s =
    let a = total-none (places_of f) (places-none f h) s.workers in
    let b = total-none f h s.finished in
    let c = total-none (λ (x : Progress). f x.place) (λ x. h x.place) s.dropped in
    omega arith

-- ---- the ticks of all facts, each at its place

abbrev times : ℕ → (Place → ℕ) → Place → ℕ
times zero weight p = 0
times (suc n) weight p = times n weight p + weight p

abbrev spread : List PieceFacts → Place → ℕ
spread [] p = 0
spread (x ∷ xs) p = times x.ticks (is_place x.place) p + spread xs p

held-times : (s : State) (q : Place) → held (is_place q) s ≤ 1 → (n : ℕ) → held (times n (is_place q)) s ≤ n
held-times s q once zero = let a = held-none (times zero (is_place q)) (λ p. refl) s in omega arith
held-times s q once (suc n) =
    let a = held-add (times n (is_place q)) (is_place q) (times (suc n) (is_place q)) (λ p. refl) s in
    let b = held-times s q once n in
    omega arith

held-spread : (s : State) → ((q : Place) → held (is_place q) s ≤ 1) → (xs : List PieceFacts) → held (spread xs) s ≤ total (λ x. x.ticks) xs
held-spread s once [] = let a = held-none (spread []) (λ p. refl) s in omega arith
held-spread s once (x ∷ xs) =
    let a = held-add (times x.ticks (is_place x.place)) (spread xs) (spread (x ∷ xs)) (λ p. refl) s in
    let b = held-times s x.place (once x.place) x.ticks in
    let c = held-spread s once xs in
    omega arith

times-one : (n : ℕ) (weight : Place → ℕ) (p : Place) → weight p ≡ 1 → times n weight p ≡ n
times-one zero weight p e = refl
times-one (suc n) weight p e = let a = times-one n weight p e in omega arith

same-number : (a : ℕ) → eqb a a ≡ true
same-number a = grind (arith, nat_tests)

same-place : (p : Place) → is_place p p ≡ 1
same-place [] = refl
same-place (a ∷ p) = ap (λ c. cond c (is_place p p) 0) (same-number a) ∙ same-place p

ticks-by : (x : PieceFacts) (xs : List PieceFacts) (p : Place) (c : Bool) → bytes_eq x.place p ≡ c → ticks_in (find_facts xs p) ≤ spread xs p
    → ticks_in (cond c (Some x) (find_facts xs p)) ≤ times x.ticks (is_place x.place) p + spread xs p
ticks-by x xs p false e i = omega arith
ticks-by x xs p true e i =
    let at : is_place x.place p ≡ 1 = sym (ap (is_place x.place) ((bytes_eq-Decides x.place p).0 e)) ∙ same-place x.place in
    let a = times-one x.ticks (is_place x.place) p at in
    omega arith

ticks-spread : (xs : List PieceFacts) (p : Place) → ticks_in (find_facts xs p) ≤ spread xs p
ticks-spread [] p = omega arith
ticks-spread (x ∷ xs) p = ticks-by x xs p (bytes_eq x.place p) refl (ticks-spread xs p)

-- ---- what was spent

hand-spent : (f : Facts) (o : Option Progress) → HandWithin f o → of_hand (λ h. h.spent) o ≤ of_hand (λ h. f.ticks h.place) o
hand-spent f None k = omega arith
hand-spent f (Some h) k = k.spent

hands-spent : (f : Facts) (ws : List Worker) → HandsWithin f ws → total (λ w. of_hand (λ h. h.spent) w.hand) ws ≤ total (places_of f.ticks) ws
hands-spent f [] k = omega arith
hands-spent f (w ∷ ws) k =
    let a = hand-spent f w.hand k.0 in
    let b = hands-spent f ws k.1 in
    omega arith

dropped-spent : (f : Facts) (xs : List Progress) → PiecesWithin f xs → total (λ h. h.spent) xs ≤ total (λ h. f.ticks h.place) xs
dropped-spent f [] k = omega arith
dropped-spent f (x ∷ xs) k =
    let a = k.0.spent in
    let b = dropped-spent f xs k.1 in
    omega arith

total-most : (xs : List PieceFacts) (b : ℕ) (s : State) → IsGood (facts_of xs) b s → s.total ≤ total (λ x. x.ticks) xs
total-most xs b s g =
    let f : Facts = facts_of xs in
    let r = g.summed in
    let a = hands-spent f s.workers g.hands in
    let d = dropped-spent f s.dropped g.dropped in
    let u = held-less f.ticks (spread xs) (ticks-spread xs) s in
    let v = held-spread s (one-part f b s g) xs in
    omega arith

-- a step that spends has room in the total
pub room : (xs : List PieceFacts) (b n w : ℕ) (s v : State) (x y : Worker) (c : Bool) → IsGood (facts_of xs) b s → v ≡ s → w < length v.workers
    → x ≡ get_or v.workers w x → c ≡ true → IsChanged (spent (facts_of xs) n x.hand x.deque) c x y → v.total + n ≤ total (λ x. x.ticks) xs
room xs b n w s v x y c g e lt get is i =
    let f : Facts = facts_of xs in
    let z : State = with_total (v.total + n) (with w y.deque y.hand v) in
    let led : IsChanged (stepped f b (Spend w n) s) true s z = total-yes (λ x. spent f n x.hand x.deque) s v w n x y c e lt get is i in
    total-most xs b z (good-by f b s z (Spend w n) true (stepped f b (Spend w n) s) g refl led)
