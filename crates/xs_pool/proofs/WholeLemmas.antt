-- What was run and what is left make a collection.
use Rattle.std.proofs.Common.{◌≡◌, ◌<◌, ◌≤◌, ◌+◌, ℕ, zero, suc, List, [], ◌∷◌, ◌++◌, map, length, get_or, Option, Some, None, Bool, true, false, cond, nat_lt}
use Rattle.std.proofs.Common.{refl, sym, ap, ◌∙◌, arith}
use Rattle.std.specs.List.{All}
use Rattle.std.proofs.lemmas.Bool.{true≢false}
use Rattle.std.proofs.lemmas.Bool.Decides.{nat_tests}
use Rattle.std.proofs.lemmas.List.Elements.{All-head, All-tail, All-append}
use Rattle.xs_trace.specs.Mark.{Trace, tick_count}
use Rattle.xs_trace.specs.Cut.{cut, nowhere}
use Rattle.xs_trace.specs.declared.item.Limits.{Limits}
use Rattle.xs_core.specs.declared.place.Claim.{Claim}
use Rattle.xs_core.specs.declared.piece.Progress.{Progress}
use Rattle.xs_core.specs.Good.{total, children}
use Rattle.xs_record.specs.Outcome.{IsOutcome}
use Rattle.xs_record.specs.declared.outcome.Outcome.{Outcome}
use Rattle.xs_pieces.specs.Tree.{task_at}
use Rattle.xs_pieces.specs.Ready.{IsReady}
use Rattle.xs_pieces.specs.Collection.{is_finished, IfFinished, ticks_in, holes_in, ticks_spent, children_in, places_in, finished_in, dropped_in}
use Rattle.xs_pieces.specs.Collection.{AreClaims, IsCollection}
use Rattle.xs_pieces.specs.declared.piece.Piece.{Piece}
use Rattle.xs_pool.specs.Logs.{all_left, left_by, run_in, spent_in, stopped_in, IsLog, IsRan}
use Rattle.xs_pool.specs.steps.Running.{waiting}
use Rattle.xs_pool.proofs.ListLemmas.{all-image}
use Rattle.xs_pool.proofs.RunLemmas.{child-weights, numbers-ticks, total-map, waiting-claimed}
use Rattle.xs_pool.proofs.StoppedLemmas.{stopped-good}

-- ---- what waits changes no sum but that of places

places-with : {H : Type 0} → (h : List ℕ → ℕ) (place : H → List ℕ) (ps : List (Piece H)) (ts : List H) →
    total h (places_in place (ps ++ map waiting ts)) ≡ run_in (λ t. h (place t)) ps + total (λ t. h (place t)) ts
places-with h place [] [] = omega arith
places-with h place [] (t ∷ ts) = let i = places-with h place [] ts in omega (arith, i)
places-with h place (p ∷ ps) ts = let i = places-with h place ps ts in omega (arith, i)

finished-with : {H : Type 0} → (place : H → List ℕ) (ps : List (Piece H)) (ts : List H) → finished_in place (ps ++ map waiting ts) ≡ finished_in place ps
finished-with place [] [] = refl
finished-with place [] (t ∷ ts) = finished-with place [] ts
finished-with place (p ∷ ps) ts = ap (λ z. cond (is_finished p.outcome) (place p.task ∷ z) z) (finished-with place ps ts)

spent-with : {H : Type 0} → (place : H → List ℕ) (places : List (List ℕ)) (ps : List (Piece H)) (ts : List H) →
    total (λ x. x.spent) (dropped_in place places (ps ++ map waiting ts)) ≡ total (λ x. x.spent) (dropped_in place places ps)
spent-with place places [] [] = refl
spent-with place places [] (t ∷ ts) = let i = spent-with place places [] ts in omega (arith, i)
spent-with {H} place places (p ∷ ps) ts = by (is_finished p.outcome) (spent-with place places ps ts)
  where
    d : Progress
    d = record { place = place p.task; spent = ticks_spent p.outcome; given = children_in places (place p.task) }

    by : (b : Bool) →
        total (λ (x : Progress). x.spent) (dropped_in place places (ps ++ map waiting ts)) ≡ total (λ (x : Progress). x.spent) (dropped_in place places ps) →
        total (λ (x : Progress). x.spent) (cond b (dropped_in place places (ps ++ map waiting ts)) (d ∷ dropped_in place places (ps ++ map waiting ts)))
        ≡ total (λ (x : Progress). x.spent) (cond b (dropped_in place places ps) (d ∷ dropped_in place places ps))
    by true i = i
    by false i = omega (arith, i)

none-stopped : {H : Type 0} → (ps : List (Piece H)) → stopped_in ps ≡ 0 → (k : ℕ) (d : Piece H) → k < length ps →
    is_finished (get_or ps k d).outcome ≡ false → ⊥
none-stopped [] e k d l f = absurd (omega (arith, l))
none-stopped (p ∷ ps) e zero d l f = let a = ap (λ (b : Bool). let n : ℕ = cond b 0 1 in n) f in absurd (omega (arith, a, e))
none-stopped (p ∷ ps) e (suc k) d l f = none-stopped ps (omega (arith, e)) k d (omega (arith, l)) f

-- ---- the whole

module _ {H : Type 0} (IsOwn : H → Type 0) (place : H → List ℕ) (own whole : H → Trace H) (ready : IsReady IsOwn place own whole)
    (Fits Waits : H → Type 0) (root : H) (l : Limits)
    (is-own : (t : H) → Fits t → IsOwn t) (at : (t : H) → Fits t → task_at own (Some root) (place t) ≡ Some t) (fit : (t : H) → Waits t → Fits t) where
  -- what a finished piece left, by its place
  left-at : (h : List ℕ → ℕ) (t : H) → Fits t →
      children h (place t) (holes_in own l (task_at own (Some root) (place t))) ≡ total (λ c. h (place c)) (left_by own l t)
  left-at h t f =
      let a : children h (place t) (holes_in own l (task_at own (Some root) (place t))) ≡ children h (place t) (length (left_by own l t)) =
      ap (λ (x : Option H). children h (place t) (holes_in own l x)) (at t f) in
      let b = child-weights h place (place t) 0 (own t) nowhere l.ticks l.events (ready.placed t (is-own t f)) in
      let z : 0 + length (left_by own l t) ≡ length (left_by own l t) = omega arith in
      let c = ap (children h (place t)) z in
      let d = total-map h place (left_by own l t) in
      omega (arith, a, b, c, d)

  all-left-at : (h : List ℕ → ℕ) (ps : List (Piece H)) → All (IsRan own Fits l) ps →
      total (λ p. children h p (holes_in own l (task_at own (Some root) p))) (finished_in place ps) ≡ all_left (λ t. h (place t)) own l ps
  all-left-at h [] a = refl
  all-left-at h (p ∷ ps) a =
      by (is_finished p.outcome) (all-left-at h ps (All-tail (IsRan own Fits l) p ps a)) (left-at h p.task (All-head (IsRan own Fits l) p ps a).fits)
    where
      f : List ℕ → ℕ
      f q = children h q (holes_in own l (task_at own (Some root) q))

      by : (b : Bool) → total f (finished_in place ps) ≡ all_left (λ t. h (place t)) own l ps →
          f (place p.task) ≡ total (λ c. h (place c)) (left_by own l p.task) →
          total f (cond b (place p.task ∷ finished_in place ps) (finished_in place ps))
          ≡ cond b (total (λ c. h (place c)) (left_by own l p.task)) 0 + all_left (λ t. h (place t)) own l ps
      by true i j = omega (arith, i, j)
      by false i j = omega (arith, i)

  ticks-at : (t : H) → Fits t → ticks_in own l (task_at own (Some root) (place t)) ≡ tick_count (cut (own t) l.ticks l.events).passed
  ticks-at t f = ap (ticks_in own l) (at t f)

  spent-at : (places : List (List ℕ)) (ps : List (Piece H)) → All (IsRan own Fits l) ps →
      total (λ p. ticks_in own l (task_at own (Some root) p)) (finished_in place ps) + total (λ x. x.spent) (dropped_in place places ps) ≡ spent_in ps
  spent-at places [] a = refl
  spent-at places (p ∷ ps) a =
      let r = All-head (IsRan own Fits l) p ps a in
      by p.outcome (is_finished p.outcome) refl (spent-at places ps (All-tail (IsRan own Fits l) p ps a)) (exact p.outcome r.outcome)
    where
      g : List ℕ → ℕ
      g q = ticks_in own l (task_at own (Some root) q)

      exact : (q : Option Outcome) → IfFinished (IsOutcome (own p.task) l) q → is_finished q ≡ true → g (place p.task) ≡ ticks_spent q
      exact None h e = absurd (true≢false (sym e))
      exact (Some o) h e = ticks-at p.task (All-head (IsRan own Fits l) p ps a).fits ∙ sym ((h e).ticks ∙ numbers-ticks (own p.task) l)

      d : Option Outcome → Progress
      d q = record { place = place p.task; spent = ticks_spent q; given = children_in places (place p.task) }

      by : (q : Option Outcome) (b : Bool) → is_finished q ≡ b →
          total g (finished_in place ps) + total (λ (x : Progress). x.spent) (dropped_in place places ps) ≡ spent_in ps →
          (is_finished q ≡ true → g (place p.task) ≡ ticks_spent q) →
          total g (cond b (place p.task ∷ finished_in place ps) (finished_in place ps))
          + total (λ (x : Progress). x.spent) (cond b (dropped_in place places ps) (d q ∷ dropped_in place places ps)) ≡ ticks_spent q + spent_in ps
      by q true e i f = let j = f e in omega (arith, i, j)
      by q false e i f = omega (arith, i)

  module _ (own_root : IsOwn root) (at_root : place root ≡ []) (t count : ℕ) (ps : List (Piece H)) (cs : List Claim) (ts : List H)
      (log : IsLog place own Fits l count ps cs) (waits : All Waits ts)
      (counted : (h : H → ℕ) → run_in h ps + total h ts ≡ h root + all_left h own l ps) (summed : t ≡ spent_in ps)
      (done : t ≤ l.ticks → (stopped_in ps ≡ 0) × (ts ≡ [])) where
    each : (P : Piece H → Type 0) → ((p : Piece H) → IsRan own Fits l p → P p) → ((x : H) → Fits x → P (waiting x)) → All P (ps ++ map waiting ts)
    each P f g = All-append P ps (map waiting ts) (λ k d m. f (get_or ps k d) (log.pieces k d m))
        (all-image P waiting ts (λ k d m. g (get_or ts k d) (fit (get_or ts k d) (waits k d m))))

    above : All (λ p. is_finished p.outcome ≡ false → l.ticks < t) (ps ++ map waiting ts)
    above = by (nat_lt l.ticks t) refl
      where
        by : (b : Bool) → nat_lt l.ticks t ≡ b → All (λ p. is_finished p.outcome ≡ false → l.ticks < t) (ps ++ map waiting ts)
        by true e = λ k d m f. grind (arith, nat_tests, e)
        by false e =
            let n = done (grind (arith, nat_tests, e)) in
            All-append (λ p. is_finished p.outcome ≡ false → l.ticks < t) ps (map waiting ts) (λ k d m f. absurd (none-stopped ps n.0 k d m f))
            (all-image (λ p. is_finished p.outcome ≡ false → l.ticks < t) waiting ts (λ k d m. absurd (let z = ap length n.1 in omega (arith, m, z))))

    pub whole-collection : IsCollection IsOwn place own root l (ps ++ map waiting ts) t
    whole-collection = stopped-good IsOwn place own root l t (ps ++ map waiting ts) (record {
      own_root = own_root;
      own_tasks = each (λ p. IsOwn p.task) (λ p r. is-own p.task r.fits) (λ x f. is-own x f);
      tasks = each (λ p. task_at own (Some root) (place p.task) ≡ Some p.task) (λ p r. at p.task r.fits) (λ x f. at x f);
      outcomes = each (λ p. IfFinished (IsOutcome (own p.task) l) p.outcome) (λ p r. r.outcome) (λ x f. tt);
      counted = λ h.
          let a = places-with h place ps ts in
          let b = ap (total (λ p. children h p (holes_in own l (task_at own (Some root) p)))) (finished-with place ps ts) in
          let c = all-left-at h ps log.pieces in
          let d = counted (λ x. h (place x)) in
          let e = ap h at_root in
          omega (arith, a, b, c, d, e);
      summed =
          let a = ap (total (λ p. ticks_in own l (task_at own (Some root) p))) (finished-with place ps ts) in
          let b = spent-with place (places_in place (ps ++ map waiting ts)) ps ts in
          let c = spent-at (places_in place (ps ++ map waiting ts)) ps log.pieces in
          omega (arith, a, b, c, summed);
      spent = each (λ p. is_finished p.outcome ≡ false → ticks_spent p.outcome ≤ ticks_in own l (task_at own (Some root) (place p.task)))
          (λ p r e. let a = ticks-at p.task r.fits in let b = r.spent e in omega (arith, a, b)) (λ x f e. omega arith);
      above = above;
    })

    pub whole-claims : AreClaims place count (ps ++ map waiting ts) cs
    whole-claims = record {
      places = λ weight. log.claims weight ∙ sym (ap (total weight) (waiting-claimed place ps ts));
      workers = log.workers;
      root = log.root;
    }
