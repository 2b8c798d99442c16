-- Each step that is allowed keeps a good state good.
use Rattle.std.proofs.Common.{◌≡◌, ◌<◌, ◌≤◌, ◌+◌, ℕ, zero, suc, List, [], ◌∷◌, ◌++◌, slice_get, set, Option, Some, None}
use Rattle.std.proofs.Common.{refl, ap, subst, ◌∙◌, arith}
use Rattle.xs_core.specs.declared.piece.Progress.{Progress}
use Rattle.xs_core.specs.declared.step.Step.{Step}
use Rattle.xs_core.specs.Machine.{Place, Facts, Worker, State, IsStep, worker, fresh, next_child}
use Rattle.xs_core.specs.Machine.{idle, opening, Has, with, with_total, with_finished, with_dropped}
use Rattle.xs_core.specs.Machine.IsStep.{takes, steals, misses, gives, spends, finishes, drops, drops_first}
use Rattle.xs_core.specs.Good.{total, of_hand, children, given_by, places_of, children_of, IsWithin, HandWithin, HandsWithin, PiecesWithin, IsGood}
use Rattle.xs_core.specs.Laws.{Runs, ReachesGood, StaysGood}
use Rattle.xs_core.specs.Laws.Runs.{ended, goes_on}
use Rattle.xs_core.proofs.ChildLemmas.{last-all, last-next, last-none}
use Rattle.xs_core.proofs.SumLemmas.{total-set, total-push}

-- ---- what is in the hands and what was dropped

hands-set : (f : Facts) (ws : List Worker) (i : ℕ) (y : Worker) → HandsWithin f ws → HandWithin f y.hand → HandsWithin f (set ws i y)
hands-set f [] i y h k = tt
hands-set f (w ∷ ws) zero y h k = (k, h.1)
hands-set f (w ∷ ws) (suc i) y h k = (h.0, hands-set f ws i y h.1 k)

hand-at : (f : Facts) (ws : List Worker) (i : ℕ) (x : Worker) → HandsWithin f ws → slice_get ws i ≡ Some x → HandWithin f x.hand
hand-at f [] i x h e = absurd (cc)
hand-at f (w ∷ ws) zero x h e = let a : w ≡ x = cc in subst (λ (z : Worker). HandWithin f z.hand) a h.0
hand-at f (w ∷ ws) (suc i) x h e = hand-at f ws i x h.1 e

dropped-push : (f : Facts) (xs : List Progress) (x : Progress) → PiecesWithin f xs → IsWithin f x → PiecesWithin f (xs ++ x ∷ [])
dropped-push f [] x h k = (k, tt)
dropped-push f (y ∷ xs) x h k = (h.0, dropped-push f xs x h.1 k)

fresh-within : (f : Facts) (p : Place) → IsWithin f (fresh p)
fresh-within f p = record { spent = omega arith; given = omega arith }

-- and has given no child
fresh-gives : (weight : Place → ℕ) (f : Facts) (p : Place) → given_by weight f (fresh p) ≡ 0
fresh-gives weight f p = last-none weight p (f.holes p)

get-other : (ws : List Worker) (v t : ℕ) (y : Worker) → ¬ t ≡ v → slice_get (set ws v y) t ≡ slice_get ws t
get-other [] v t y f = refl
get-other (w ∷ ws) zero zero y f = absurd (f refl)
get-other (w ∷ ws) zero (suc t) y f = refl
get-other (w ∷ ws) (suc v) zero y f = refl
get-other (w ∷ ws) (suc v) (suc t) y f = get-other ws v t y (λ e. f (ap suc e))

-- ---- the steps

good-take : (f : Facts) (b w : ℕ) (p : Place) (ps : List Place) (s : State) → IsGood f b s → Has s w (ps ++ p ∷ []) None
    → IsGood f b (with w ps (Some (fresh p)) s)
good-take f b w p ps s g at =
    let x : Worker = worker (ps ++ p ∷ []) None in
    let y : Worker = worker ps (Some (fresh p)) in
    record {
      counted = λ k.
          let u = total-push k ps p in
          let z = fresh-gives k f p in
          let a = total-set (places_of k) s.workers w x y at in
          let c = total-set (children_of k f) s.workers w x y at in
          let r = g.counted k in
          omega arith;
      hands = hands-set f s.workers w y g.hands (fresh-within f p);
      dropped = g.dropped;
      summed =
          let c = total-set (λ w. of_hand (λ h. h.spent) w.hand) s.workers w x y at in
          let r = g.summed in
          omega arith;
      above = g.above;
    }

good-steal : (f : Facts) (b t v : ℕ) (p : Place) (ps : List Place) (hand : Option Progress) (s : State) → IsGood f b s → ¬ t ≡ v → Has s t [] None
    → Has s v (p ∷ ps) hand → IsGood f b (with t [] (Some (fresh p)) (with v ps hand s))
good-steal f b t v p ps hand s g ne thief victim =
    let x : Worker = worker [] None in
    let y : Worker = worker [] (Some (fresh p)) in
    let k : Worker = worker (p ∷ ps) hand in
    let z : Worker = worker ps hand in
    let ws : List Worker = set s.workers v z in
    let free : slice_get ws t ≡ Some x = get-other s.workers v t z ne ∙ thief in
    record {
      counted = λ h.
          let a = total-set (places_of h) s.workers v k z victim in
          let d = total-set (places_of h) ws t x y free in
          let c = total-set (children_of h f) s.workers v k z victim in
          let e = total-set (children_of h f) ws t x y free in
          let z = fresh-gives h f p in
          let r = g.counted h in
          omega arith;
      hands = hands-set f ws t y (hands-set f s.workers v z g.hands (hand-at f s.workers v k g.hands victim)) (fresh-within f p);
      dropped = g.dropped;
      summed =
          let c = total-set (λ w. of_hand (λ h. h.spent) w.hand) s.workers v k z victim in
          let e = total-set (λ w. of_hand (λ h. h.spent) w.hand) ws t x y free in
          let r = g.summed in
          omega arith;
      above = g.above;
    }

good-give : (f : Facts) (b w : ℕ) (ps : List Place) (h : Progress) (s : State) → IsGood f b s → Has s w ps (Some h) → h.given < f.holes h.place
    → IsGood f b (with w (ps ++ (h.place ++ next_child f h ∷ []) ∷ []) (Some (record h { given = h.given + 1 })) s)
good-give f b w ps h s g at fewer =
    let x : Worker = worker ps (Some h) in
    let y : Worker = worker (ps ++ (h.place ++ next_child f h ∷ []) ∷ []) (Some (record h { given = h.given + 1 })) in
    let within : IsWithin f h = hand-at f s.workers w x g.hands at in
    record {
      counted = λ k.
          let u = total-push k ps (h.place ++ next_child f h ∷ []) in
          let n = last-next k h.place (f.holes h.place) h.given fewer in
          let a = total-set (places_of k) s.workers w x y at in
          let c = total-set (children_of k f) s.workers w x y at in
          let r = g.counted k in
          omega arith;
      hands = hands-set f s.workers w y g.hands (record { spent = within.spent; given = omega (arith, fewer) });
      dropped = g.dropped;
      summed =
          let c = total-set (λ w. of_hand (λ h. h.spent) w.hand) s.workers w x y at in
          let r = g.summed in
          omega arith;
      above = g.above;
    }

good-spend : (f : Facts) (b w n : ℕ) (ps : List Place) (h : Progress) (s : State) → IsGood f b s → Has s w ps (Some h) → h.spent + n ≤ f.ticks h.place
    → IsGood f b (with_total (s.total + n) (with w ps (Some (record h { spent = h.spent + n })) s))
good-spend f b w n ps h s g at most =
    let x : Worker = worker ps (Some h) in
    let y : Worker = worker ps (Some (record h { spent = h.spent + n })) in
    let within : IsWithin f h = hand-at f s.workers w x g.hands at in
    record {
      counted = λ k.
          let a = total-set (places_of k) s.workers w x y at in
          let c = total-set (children_of k f) s.workers w x y at in
          let r = g.counted k in
          omega arith;
      hands = hands-set f s.workers w y g.hands (record { spent = most; given = within.given });
      dropped = g.dropped;
      summed =
          let c = total-set (λ w. of_hand (λ h. h.spent) w.hand) s.workers w x y at in
          let r = g.summed in
          omega arith;
      above = λ z. let r = g.above z in omega arith;
    }

good-finish : (f : Facts) (b w : ℕ) (ps : List Place) (h : Progress) (s : State) → IsGood f b s → Has s w ps (Some h) → h.spent ≡ f.ticks h.place
    → h.given ≡ f.holes h.place → IsGood f b (with_finished h.place (with w ps None s))
good-finish f b w ps h s g at ticks holes =
    let x : Worker = worker ps (Some h) in
    let y : Worker = worker ps None in
    record {
      counted = λ k.
          let same : given_by k f h ≡ children k h.place (f.holes h.place) = last-all k h.place (f.holes h.place) h.given holes in
          let u = total-push k s.finished h.place in
          let v = total-push (λ p. children k p (f.holes p)) s.finished h.place in
          let a = total-set (places_of k) s.workers w x y at in
          let c = total-set (children_of k f) s.workers w x y at in
          let r = g.counted k in
          omega arith;
      hands = hands-set f s.workers w y g.hands tt;
      dropped = g.dropped;
      summed =
          let k = total-push f.ticks s.finished h.place in
          let c = total-set (λ w. of_hand (λ h. h.spent) w.hand) s.workers w x y at in
          let r = g.summed in
          omega arith;
      above = g.above;
    }

good-drop : (f : Facts) (b w : ℕ) (ps : List Place) (h : Progress) (s : State) → IsGood f b s → b < s.total → Has s w ps (Some h)
    → IsGood f b (with_dropped h (with w ps None s))
good-drop f b w ps h s g over at =
    let x : Worker = worker ps (Some h) in
    let y : Worker = worker ps None in
    record {
      counted = λ k.
          let u = total-push (λ h. k h.place) s.dropped h in
          let v = total-push (given_by k f) s.dropped h in
          let a = total-set (places_of k) s.workers w x y at in
          let c = total-set (children_of k f) s.workers w x y at in
          let r = g.counted k in
          omega arith;
      hands = hands-set f s.workers w y g.hands tt;
      dropped = dropped-push f s.dropped h g.dropped (hand-at f s.workers w x g.hands at);
      summed =
          let k = total-push (λ h. h.spent) s.dropped h in
          let c = total-set (λ w. of_hand (λ h. h.spent) w.hand) s.workers w x y at in
          let r = g.summed in
          omega arith;
      above = λ z. over;
    }

good-drop-first : (f : Facts) (b w : ℕ) (p : Place) (ps : List Place) (s : State) → IsGood f b s → b < s.total → Has s w (p ∷ ps) None
    → IsGood f b (with_dropped (fresh p) (with w ps None s))
good-drop-first f b w p ps s g over at =
    let x : Worker = worker (p ∷ ps) None in
    let y : Worker = worker ps None in
    record {
      counted = λ k.
          let u = total-push (λ h. k h.place) s.dropped (fresh p) in
          let v = total-push (given_by k f) s.dropped (fresh p) in
          let z = fresh-gives k f p in
          let a = total-set (places_of k) s.workers w x y at in
          let c = total-set (children_of k f) s.workers w x y at in
          let r = g.counted k in
          omega arith;
      hands = hands-set f s.workers w y g.hands tt;
      dropped = dropped-push f s.dropped (fresh p) g.dropped (fresh-within f p);
      summed =
          let k = total-push (λ h. h.spent) s.dropped (fresh p) in
          let c = total-set (λ w. of_hand (λ h. h.spent) w.hand) s.workers w x y at in
          let r = g.summed in
          omega arith;
      above = λ z. over;
    }

pub good-step : (f : Facts) (b : ℕ) (s n : State) (step : Step) → IsGood f b s → IsStep f b s step n → IsGood f b n
good-step f b s n step g (takes w p ps at) = good-take f b w p ps s g at
good-step f b s n step g (steals t v p ps hand ne thief victim) = good-steal f b t v p ps hand s g ne thief victim
good-step f b s n step g (misses t v ps hand ne thief victim) = g
good-step f b s n step g (gives w ps h at fewer) = good-give f b w ps h s g at fewer
good-step f b s n step g (spends w i ps h at most) = good-spend f b w i ps h s g at most
good-step f b s n step g (finishes w ps h at ticks holes) = good-finish f b w ps h s g at ticks holes
good-step f b s n step g (drops w ps h over at) = good-drop f b w ps h s g over at
good-step f b s n step g (drops_first w p ps over at) = good-drop-first f b w p ps s g over at

-- ---- the start, and all steps

idle-none : (f : Worker → ℕ) → f (worker [] None) ≡ 0 → (n : ℕ) → total f (idle n) ≡ 0
idle-none f e zero = refl
idle-none f e (suc n) = let a = idle-none f e n in omega arith

idle-within : (f : Facts) (n : ℕ) → HandsWithin f (idle n)
idle-within f zero = tt
idle-within f (suc n) = (tt, idle-within f n)

pub good-opening : (f : Facts) (b others : ℕ) → IsGood f b (opening others)
good-opening f b others = record {
  counted = λ k.
      let a = idle-none (places_of k) refl others in
      let c = idle-none (children_of k f) refl others in
      omega arith;
  hands = (tt, idle-within f others);
  dropped = tt;
  summed = let a = idle-none (λ w. of_hand (λ h. h.spent) w.hand) refl others in omega arith;
  above = λ z. absurd (omega arith);
}

good-run : (f : Facts) (b : ℕ) (s n : State) (steps : List Step) → IsGood f b s → Runs f b s steps n → IsGood f b n
good-run f b s n steps g (ended t) = g
good-run f b s n steps g (goes_on t m o step rest one others) = good-run f b m n rest (good-step f b s m step g one) others

pub reaches-good : ReachesGood
reaches-good f b others steps s run = good-run f b (opening others) s steps (good-opening f b others) run

pub stays-good : StaysGood
stays-good = record { opening = good-opening; step = good-step }
