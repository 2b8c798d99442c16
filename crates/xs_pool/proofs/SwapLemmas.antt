-- Of pieces that are run one after another, two that wait are in each other's place.
use Rattle.std.proofs.Common.{◌≡◌, ◌<◌, ◌≤◌, ◌+◌, ◌≢◌, ℕ, zero, suc, List, [], ◌∷◌, length, get_or, set, Option, Some, None, cond}
use Rattle.std.proofs.Common.{refl, sym, ap, subst, ◌∙◌, arith}
use Rattle.std.specs.List.{All, swap}
use Rattle.std.proofs.lemmas.List.{length-set, get_or-set_other}
use Rattle.std.proofs.lemmas.List.Edits.{length-swap, swap_is}
use Rattle.xs_trace.specs.Mark.{Trace}
use Rattle.xs_trace.specs.declared.item.Limits.{Limits}
use Rattle.xs_core.specs.Good.{total, children}
use Rattle.xs_record.specs.Outcome.{IsOutcome}
use Rattle.xs_record.specs.declared.outcome.Outcome.{Outcome}
use Rattle.xs_pieces.specs.Collection.{is_finished, IfFinished, ticks_in, holes_in, places_in, finished_in, if_run, claimed_in}
use Rattle.xs_pieces.specs.Tree.{task_at, BeginsWithTick}
use Rattle.xs_pieces.specs.declared.piece.Piece.{Piece}
use Rattle.xs_pool.specs.steps.Running.{IsRun}

-- what is so of an item that was written, and of the one at an index, is so of the one there after it
get-set : {X : Type 0} (P : X → Type 0) (xs : List X) (j : ℕ) (x : X) (k : ℕ) (d : X) → P x → (k < length xs → P (get_or xs k d)) →
    k < length (set xs j x) → P (get_or (set xs j x) k d)
get-set P [] j x k d p f lt = f lt
get-set P (y ∷ ys) zero x zero d p f lt = p
get-set P (y ∷ ys) zero x (suc k) d p f lt = f lt
get-set P (y ∷ ys) (suc j) x zero d p f lt = f (omega arith)
get-set P (y ∷ ys) (suc j) x (suc k) d p f lt = get-set P ys j x k d p (λ l. f (omega (arith, l))) (omega (arith, lt))

-- a waiting piece in the place of a waiting one
finished-set : {H : Type 0} (place : H → List ℕ) (ps : List (Piece H)) (i : ℕ) (x : Piece H) → i < length ps →
    ((d : Piece H) → (get_or ps i d).outcome ≡ None) → x.outcome ≡ None → finished_in place (set ps i x) ≡ finished_in place ps
finished-set place [] i x lt w e = absurd (omega (arith, lt))
finished-set place (p ∷ ps) zero x lt w e =
    ap (λ (q : Option Outcome). cond (is_finished q) (place x.task ∷ finished_in place ps) (finished_in place ps)) e
    ∙ sym (ap (λ (q : Option Outcome). cond (is_finished q) (place p.task ∷ finished_in place ps) (finished_in place ps)) (w p))
finished-set place (p ∷ ps) (suc i) x lt w e =
    ap (λ z. cond (is_finished p.outcome) (place p.task ∷ z) z) (finished-set place ps i x (omega (arith, lt)) w e)

claimed-set : {H : Type 0} (place : H → List ℕ) (ps : List (Piece H)) (i : ℕ) (x : Piece H) → i < length ps →
    ((d : Piece H) → (get_or ps i d).outcome ≡ None) → x.outcome ≡ None → claimed_in place (set ps i x) ≡ claimed_in place ps
claimed-set place [] i x lt w e = absurd (omega (arith, lt))
claimed-set place (p ∷ ps) zero x lt w e =
    ap (λ (q : Option Outcome). if_run q (place x.task) (claimed_in place ps)) e
    ∙ sym (ap (λ (q : Option Outcome). if_run q (place p.task) (claimed_in place ps)) (w p))
claimed-set place (p ∷ ps) (suc i) x lt w e = ap (if_run p.outcome (place p.task)) (claimed-set place ps i x (omega (arith, lt)) w e)

-- places, weighed
total-set : {H : Type 0} (h : List ℕ → ℕ) (place : H → List ℕ) (ps : List (Piece H)) (i : ℕ) (x d : Piece H) → i < length ps →
    total h (places_in place (set ps i x)) + h (place (get_or ps i d).task) ≡ total h (places_in place ps) + h (place x.task)
total-set h place [] i x d lt = absurd (omega (arith, lt))
total-set h place (p ∷ ps) zero x d lt = omega arith
total-set h place (p ∷ ps) (suc i) x d lt = let e = total-set h place ps i x d (omega (arith, lt)) in omega arith

-- ---- two pieces from an index on, both of which wait
module _ {H : Type 0} (place : H → List ℕ) (ps : List (Piece H)) (i j : ℕ) (d : Piece H) (le : i ≤ j) (lt : j < length ps)
    (rest : (k : ℕ) (e : Piece H) → i ≤ k → k < length ps → (get_or ps k e).outcome ≡ None) where
  abbrev a : Piece H
  a = get_or ps j d

  abbrev b : Piece H
  b = get_or ps i d

  abbrev once : List (Piece H)
  once = set ps i a

  abbrev twice : List (Piece H)
  twice = set once j b

  here : i < length ps
  here = omega (arith, le, lt)

  there : j < length once
  there = let e = length-set ps i a in omega (arith, lt, e)

  is-swap : swap ps i j ≡ twice
  is-swap = sym (swap_is ps i j d here lt)

  all-twice : (P : Piece H → Type 0) → All P ps → All P twice
  all-twice P f k e m = get-set P once j b k e (f i d here) (λ l. get-set P ps i a k e (f j d lt) (λ n. f k e n) l) m

  a-waits : a.outcome ≡ None
  a-waits = rest j d le lt

  b-waits : b.outcome ≡ None
  b-waits = rest i d (omega arith) here

  waits-once : (k : ℕ) (e : Piece H) → i ≤ k → k < length once → (get_or once k e).outcome ≡ None
  waits-once k e h m = get-set (λ (x : Piece H). x.outcome ≡ None) ps i a k e a-waits (λ l. rest k e h l) m

  waits-twice : (k : ℕ) (e : Piece H) → i ≤ k → k < length twice → (get_or twice k e).outcome ≡ None
  waits-twice k e h m = get-set (λ (x : Piece H). x.outcome ≡ None) once j b k e b-waits (λ l. waits-once k e h l) m

  finished-twice : finished_in place twice ≡ finished_in place ps
  finished-twice =
      finished-set place once j b there (λ e. waits-once j e le there) b-waits ∙ finished-set place ps i a here (λ e. rest i e (omega arith) here) a-waits

  claimed-twice : claimed_in place twice ≡ claimed_in place ps
  claimed-twice =
      claimed-set place once j b there (λ e. waits-once j e le there) b-waits ∙ claimed-set place ps i a here (λ e. rest i e (omega arith) here) a-waits

  total-twice : (h : List ℕ → ℕ) → total h (places_in place twice) ≡ total h (places_in place ps)
  total-twice h =
      let m : get_or once j d ≡ a = get-set (λ (x : Piece H). x ≡ a) ps i a j d refl (λ l. refl) there in
      let e = ap (λ (x : Piece H). h (place x.task)) m in
      let s = total-set h place ps i a d here in
      let t = total-set h place once j b d there in
      omega arith

  before-twice : (k : ℕ) (e : Piece H) → k < i → get_or twice k e ≡ get_or ps k e
  before-twice k e h =
      let n : k ≢ j = λ q. absurd (omega (arith, h, le, q)) in
      let m : k ≢ i = λ q. absurd (omega (arith, h, q)) in
      get_or-set_other once j k b e n ∙ get_or-set_other ps i k a e m

  length-twice : length twice ≡ length ps
  length-twice = length-set once j b ∙ length-set ps i a

pub length-swapped : {X : Type 0} (ps qs : List X) (i j : ℕ) → qs ≡ swap ps i j → length qs ≡ length ps
length-swapped ps qs i j e = ap length e ∙ length-swap ps i j

-- the claims are of the same pieces
pub claimed-swapped : {H : Type 0} (place : H → List ℕ) (ps qs : List (Piece H)) (i j : ℕ) → i ≤ j → j < length ps →
    ((k : ℕ) (e : Piece H) → i ≤ k → k < length ps → (get_or ps k e).outcome ≡ None) → qs ≡ swap ps i j → claimed_in place qs ≡ claimed_in place ps
claimed-swapped place [] qs i j le lt rest e = absurd (omega (arith, lt))
claimed-swapped place (p ∷ ps) qs i j le lt rest e =
    ap (claimed_in place) (e ∙ is-swap place (p ∷ ps) i j p le lt rest) ∙ claimed-twice place (p ∷ ps) i j p le lt rest

pub run-swapped : {H : Type 0} (IsOwn : H → Type 0) (place : H → List ℕ) (own : H → Trace H) (root : H) (l : Limits) (i t j : ℕ) (ps qs : List (Piece H)) →
    IsRun IsOwn place own root l i t ps → i ≤ j → j < length ps → qs ≡ swap ps i j → IsRun IsOwn place own root l i t qs
run-swapped IsOwn place own root l i t j [] qs r le lt e = absurd (omega (arith, lt))
run-swapped {H} IsOwn place own root l i t j (p ∷ ps) qs r le lt e =
    let fin = finished-twice place (p ∷ ps) i j p le lt r.rest in
    subst (λ (x : List (Piece H)). IsRun IsOwn place own root l i t x) (sym (e ∙ is-swap place (p ∷ ps) i j p le lt r.rest)) (record {
      own_root = r.own_root;
      own_tasks = all-twice place (p ∷ ps) i j p le lt r.rest
          (λ q. IsOwn q.task) r.own_tasks;
      tasks = all-twice place (p ∷ ps) i j p le lt r.rest
          (λ q. task_at own (Some root) (place q.task) ≡ Some q.task) r.tasks;
      outcomes = all-twice place (p ∷ ps) i j p le lt r.rest
          (λ q. IfFinished (IsOutcome (own q.task) l) q.outcome) r.outcomes;
      begin = all-twice place (p ∷ ps) i j p le lt r.rest
          (λ q. BeginsWithTick (own q.task)) r.begin;
      alone = λ y. let a = r.alone y in let n = length-twice place (p ∷ ps) i j p le lt r.rest in omega arith;
      first = λ k d h. ap (λ (x : Piece H). is_finished x.outcome) (before-twice place (p ∷ ps) i j p le lt r.rest k d h) ∙ r.first k d h;
      rest = waits-twice place (p ∷ ps) i j p le lt r.rest;
      counted = λ h.
          let a = total-twice place (p ∷ ps) i j p le lt r.rest h in
          let b = ap (total (λ q. children h q (holes_in own l (task_at own (Some root) q)))) fin in
          let c = r.counted h in
          omega arith;
      summed = r.summed ∙ sym (ap (total (λ q. ticks_in own l (task_at own (Some root) q))) fin);
    })
