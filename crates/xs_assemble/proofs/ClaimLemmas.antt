-- The claims of a run in pieces.
use Rattle.std.proofs.Common.{◌≡◌, ◌<◌, ◌≤◌, ◌+◌, ℕ, zero, suc, List, [], ◌∷◌, ◌++◌, length, get_or, Option, Some, None, Bool, true, false, cond, nat_lt}
use Rattle.std.proofs.Common.{refl, sym, ap, subst, ◌∙◌, arith, append_assoc}
use Rattle.std.specs.Cmp.{IsStrictWeakOrder}
use Rattle.std.specs.List.{All, Contains}
use Rattle.std.specs.List.Sorted.{IsPermutation, IsSortedBy}
use Rattle.std.proofs.lemmas.Bool.{true≢false}
use Rattle.std.proofs.lemmas.Bool.Decides.{nat_tests}
use Rattle.std.proofs.lemmas.Cmp.{nat_list_cmp_total}
use Rattle.std.proofs.lemmas.List.{append-nil}
use Rattle.std.proofs.lemmas.List.Elements.{All-head, All-tail}
use Rattle.std.proofs.lemmas.List.Sorted.{All-permutation, ranks_by, sum_by-IsPermutation}
use Rattle.xs_trace.specs.Mark.{Trace, tick_count}
use Rattle.xs_trace.specs.Cut.{End, Whole, Fault, Needs, Spent, Full, cut, nowhere}
use Rattle.xs_trace.specs.Fill.{fill}
use Rattle.xs_trace.specs.declared.item.Limits.{Limits}
use Rattle.xs_core.specs.declared.place.Claim.{Claim}
use Rattle.xs_trace.proofs.CutLemmas.{cut-longest}
use Rattle.xs_core.specs.declared.piece.Progress.{Progress}
use Rattle.xs_core.specs.Good.{total, is_place, PiecesWithin}
use Rattle.xs_core.specs.Machine.{Facts}
use Rattle.xs_record.specs.declared.outcome.Outcome.{Outcome}
use Rattle.xs_pieces.specs.Ready.{IsReady}
use Rattle.xs_pieces.specs.Tree.{task_at}
use Rattle.xs_pieces.specs.Collection.{is_finished, ticks_in, holes_in, facts_of, if_run, claimed_in, places_in, children_in}
use Rattle.xs_record.specs.Outcome.{is_done}
use Rattle.xs_pieces.specs.Collection.{ticks_spent, finished_in, dropped_in, AreClaims, IsCollection}
use Rattle.xs_pieces.specs.declared.piece.Piece.{Piece}
use Rattle.xs_pieces.proofs.CollectionLemmas.{all-passed, at-place, child-there, found, missing-above, place-same, root-there, whole-is-complete}
use Rattle.xs_assemble.specs.Assembled.{EndsIn, IsAssembled}
use Rattle.xs_assemble.specs.Claims.{claimed_places, claimed_ticks, AreOfTree, AreAll, IsReached}
use Rattle.xs_assemble.specs.declared.assembled.Assembled.{Assembled}
use Rattle.xs_assemble.specs.steps.Work.{is_below}
use Rattle.xs_assemble.proofs.AssemblyLemmas.{contains-weigh, once, total-map}
use Rattle.xs_assemble.proofs.BlockLemmas.{total-sum}
use Rattle.xs_assemble.proofs.TickLemmas.{no-more-ticks}

-- the order of claims by place
pub weak-claims : IsStrictWeakOrder (λ (c d : Claim). is_below c.place d.place)
weak-claims = ranks_by nat_list_cmp_total (λ (c : Claim). c.place)

-- ---- what was claimed of pieces

run-fewer : (h : List ℕ → ℕ) (o : Option Outcome) (q : List ℕ) (qs rs : List (List ℕ)) → total h qs ≤ total h rs →
    total h (if_run o q qs) ≤ h q + total h rs
run-fewer h None q qs rs e = omega (arith, e)
run-fewer h (Some o) q qs rs e = omega (arith, e)

claimed-fewer : {H : Type 0} → (h : List ℕ → ℕ) (place : H → List ℕ) (ps : List (Piece H)) → total h (claimed_in place ps) ≤ total h (places_in place ps)
claimed-fewer h place [] = omega arith
claimed-fewer h place (p ∷ ps) = run-fewer h p.outcome (place p.task) (claimed_in place ps) (places_in place ps) (claimed-fewer h place ps)

run-same : (o : Option Outcome) (q : List ℕ) (qs : List (List ℕ)) → is_finished o ≡ true → if_run o q qs ≡ q ∷ qs
run-same None q qs e = absurd (true≢false (sym e))
run-same (Some o) q qs e = refl

claimed-all : {H : Type 0} → (place : H → List ℕ) (ps : List (Piece H)) → All (λ p. is_finished p.outcome ≡ true) ps → claimed_in place ps ≡ places_in place ps
claimed-all place [] a = refl
claimed-all {H} place (p ∷ ps) a =
    run-same p.outcome (place p.task) (claimed_in place ps) (All-head (λ (x : Piece H). is_finished x.outcome ≡ true) p ps a)
    ∙ ap (λ (z : List (List ℕ)). place p.task ∷ z) (claimed-all place ps (All-tail (λ (x : Piece H). is_finished x.outcome ≡ true) p ps a))

weigh-claim : (cs : List Claim) (k : ℕ) (d : Claim) → k < length cs → 1 ≤ total (λ c. is_place (get_or cs k d).place c.place) cs
weigh-claim [] k d h = absurd (omega (arith, h))
weigh-claim (c ∷ cs) zero d h = let e = place-same c.place in omega arith
weigh-claim (c ∷ cs) (suc k) d h = let i = weigh-claim cs k d (omega (arith, h)) in omega arith

-- all that was spent is of the pieces that were run, each of which takes no less
spent-claimed : {H : Type 0} → (f : Facts) (place : H → List ℕ) (places : List (List ℕ)) (ps : List (Piece H)) →
    PiecesWithin f (dropped_in place places ps) →
    total f.ticks (finished_in place ps) + total (λ x. x.spent) (dropped_in place places ps) ≤ total f.ticks (claimed_in place ps)
spent-claimed f place places [] w = omega arith
spent-claimed {H} f place places (p ∷ ps) w = by p.outcome (spent-claimed f place places ps) w
  where
    by : (o : Option Outcome) →
        (PiecesWithin f (dropped_in place places ps) →
        total f.ticks (finished_in place ps) + total (λ x. x.spent) (dropped_in place places ps) ≤ total f.ticks (claimed_in place ps)) →
        PiecesWithin f (cond (is_finished o) (dropped_in place places ps)
        (record { place = place p.task; spent = ticks_spent o; given = children_in places (place p.task) } ∷ dropped_in place places ps)) →
        total f.ticks (cond (is_finished o) (place p.task ∷ finished_in place ps) (finished_in place ps))
        + total (λ (x : Progress). x.spent) (cond (is_finished o) (dropped_in place places ps)
        (record { place = place p.task; spent = ticks_spent o; given = children_in places (place p.task) } ∷ dropped_in place places ps))
        ≤ total f.ticks (if_run o (place p.task) (claimed_in place ps))
    by None i w = let a = i w.1 in omega (arith, a)
    by (Some o) i w = ran (is_done o.ended) i w
      where
        ran : (b : Bool) →
            (PiecesWithin f (dropped_in place places ps) →
            total f.ticks (finished_in place ps) + total (λ x. x.spent) (dropped_in place places ps) ≤ total f.ticks (claimed_in place ps)) →
            PiecesWithin f (cond b (dropped_in place places ps)
            (record { place = place p.task; spent = o.ticks; given = children_in places (place p.task) } ∷ dropped_in place places ps)) →
            total f.ticks (cond b (place p.task ∷ finished_in place ps) (finished_in place ps))
            + total (λ (x : Progress). x.spent) (cond b (dropped_in place places ps)
            (record { place = place p.task; spent = o.ticks; given = children_in places (place p.task) } ∷ dropped_in place places ps))
            ≤ f.ticks (place p.task) + total f.ticks (claimed_in place ps)
        ran true i w = let a = i w in omega (arith, a)
        ran false i w = let a = i w.1 in let s = w.0.spent in omega (arith, a, s)

is-true : (b : Bool) → (b ≡ false → ⊥) → b ≡ true
is-true true f = refl
is-true false f = absurd (f refl)

module _ {H : Type 0} (IsOwn : H → Type 0) (place : H → List ℕ) (own : H → Trace H) (root : H) (l : Limits) (ps : List (Piece H)) (t : ℕ)
    (coll : IsCollection IsOwn place own root l ps t) (cs ds : List Claim) {count : ℕ} (claims : AreClaims place count ps cs) (same : IsPermutation cs ds) where
  -- sorted claims weigh what pieces that were run do
  claims-weigh : (h : List ℕ → ℕ) → total h (claimed_places ds) ≡ total h (claimed_in place ps)
  claims-weigh h =
      let f : Claim → ℕ = λ c. h c.place in
      total-map h (λ (c : Claim). c.place) ds ∙ total-sum f ds ∙ sum_by-IsPermutation f cs ds same ∙ sym (total-sum f cs) ∙ claims.places h

  -- so they are claims of these
  pub sorted-claims : AreClaims place count ps ds
  sorted-claims = record {
    places = λ h. sym (total-map h (λ (c : Claim). c.place) ds) ∙ claims-weigh h;
    workers = All-permutation (λ c. c.worker < count) cs ds same claims.workers;
    root = All-permutation (λ c. c.place ≡ [] → c.worker ≡ 0) cs ds same claims.root;
  }

  -- a piece that is there is of the tree
  of-piece : (p : List ℕ) (k : ℕ) (d : Piece H) → k < length ps → place (get_or ps k d).task ≡ p → (t : H) × (task_at own (Some root) p ≡ Some t)
  of-piece p k d h e = ((get_or ps k d).task, ap (task_at own (Some root)) (sym e) ∙ coll.tasks k d h)

  of-tree : (p : List ℕ) → Contains (places_in place ps) p → (t : H) × (task_at own (Some root) p ≡ Some t)
  of-tree p c = let r = at-place place ps c.0 p c.1 c.2 in of-piece p c.0 r.0 r.1 r.2

  pub are-of-tree : IsSortedBy (λ c d. is_below c.place d.place) ds → AreOfTree own root count ds
  are-of-tree sorted = record {
    sorted = sorted;
    workers = All-permutation (λ c. c.worker < count) cs ds same claims.workers;
    first = All-permutation (λ c. c.place ≡ [] → c.worker ≡ 0) cs ds same claims.root;
    once = λ p.
        let a = claims-weigh (is_place p) in
        let b = claimed-fewer (is_place p) place ps in
        let o = once place own root l ps t coll.good p in
        omega (arith, a, b, o);
    there = λ k d h.
        let p : List ℕ = (get_or ds k d).place in
        let a = weigh-claim ds k d h in
        let m = total-map (is_place p) (λ (c : Claim). c.place) ds in
        let b = claims-weigh (is_place p) in
        let f = claimed-fewer (is_place p) place ps in
        of-tree p (found p (places_in place ps) (omega (arith, a, m, b, f)));
  }

  -- the total is at most the ticks of the claimed pieces
  pub total-claimed : t ≤ claimed_ticks own root l ds
  total-claimed =
      let f : List ℕ → ℕ = λ p. ticks_in own l (task_at own (Some root) p) in
      let s = coll.good.summed in
      let a = spent-claimed (facts_of own root l) place (places_in place ps) ps coll.good.dropped in
      let b = claims-weigh f in
      omega (arith, s, a, b)

  -- where all pieces are finished, each place that is there was claimed
  claimed-there : All (λ p. is_finished p.outcome ≡ true) ps → (p : List ℕ) → Contains (places_in place ps) p → Contains (claimed_places ds) p
  claimed-there finished p c =
      let w = contains-weigh p (places_in place ps) c in
      let a = claims-weigh (is_place p) in
      let b = ap (total (is_place p)) (claimed-all place ps finished) in
      found p (claimed_places ds) (omega (arith, w, a, b))

  pub are-all : All (λ p. is_finished p.outcome ≡ true) ps →
      ((p : List ℕ) (x : H) → task_at own (Some root) p ≡ Some x → Contains (places_in place ps) p) → AreAll own root ds
  are-all finished all p x e = claimed-there finished p (all p x e)

  -- and each place to which holes lead is there
  holes-lead : All (λ p. is_finished p.outcome ≡ true) ps → (q r : List ℕ) → Contains (places_in place ps) q →
      ((a : List ℕ) (k : ℕ) (b : List ℕ) → q ++ r ≡ a ++ (k ∷ b) → k < holes_in own l (task_at own (Some root) a)) → Contains (places_in place ps) (q ++ r)
  holes-lead finished q [] c h = subst (λ (z : List ℕ). Contains (places_in place ps) z) (sym (append-nil q)) c
  holes-lead finished q (k ∷ r) c h =
      let at = at-place place ps c.0 q c.1 c.2 in
      let next : Contains (places_in place ps) (q ++ k ∷ []) =
      subst (λ (z : List ℕ). Contains (places_in place ps) (z ++ k ∷ [])) at.2
      (child-there place own root l ps t coll.good c.0 at.0 at.1 (finished c.0 at.0 at.1) k
      (subst (λ (z : List ℕ). k < holes_in own l (task_at own (Some root) z)) (sym at.2) (h q k r refl))) in
      subst (λ (z : List ℕ). Contains (places_in place ps) z) (append_assoc q (k ∷ []) r)
      (holes-lead finished (q ++ k ∷ []) r next (λ a j b e. h a j b (sym (append_assoc q (k ∷ []) r) ∙ e)))

  within-limit : t ≤ l.ticks → All (λ p. is_finished p.outcome ≡ true) ps
  within-limit le = λ k d h.
      is-true (is_finished (get_or ps k d).outcome) (λ e. let a = missing-above place own root l ps t coll.good k d h e in omega (arith, a, le))

  -- a place to which holes lead is not claimed only where the total is above the limit
  pub missing-claim : (p : List ℕ) → IsReached own root l p → (Contains (claimed_places ds) p → ⊥) → l.ticks < t
  missing-claim p h n = by (nat_lt l.ticks t) refl
    where
      by : (b : Bool) → nat_lt l.ticks t ≡ b → l.ticks < t
      by true e = grind (arith, nat_tests, e)
      by false e =
          let le : t ≤ l.ticks = grind (arith, nat_tests, e) in
          let all = within-limit le in
          absurd (n (claimed-there all p (holes-lead all [] p (root-there place own root l ps t coll.good) h)))

  -- what is assembled took no more ticks than there are
  pub ticks-taken : (whole : H → Trace H) → ((x : H) → whole x ≡ fill whole (own x)) → (a : Assembled) → IsAssembled (cut (whole root) l.ticks l.events) a →
      a.ticks ≤ t
  ticks-taken whole fills a is = by (nat_lt l.ticks t) refl
    where
      by : (b : Bool) → nat_lt l.ticks t ≡ b → a.ticks ≤ t
      by true e =
          let h : l.ticks < t = grind (arith, nat_tests, e) in
          let i = is.ticks in
          let w = (cut-longest (whole root) nowhere l.ticks l.events).within in
          omega (arith, h, i, w)
      by false e =
          let le : t ≤ l.ticks = grind (arith, nat_tests, e) in
          let i = is.ticks in
          let n = no-more-ticks own whole fills root l place ps t coll.tasks coll.good (within-limit le) in
          omega (arith, i, n)

whole-passed : {H : Type 0} → (x : Trace H) (l : Limits) → (cut x l.ticks l.events).end ≡ Whole → (cut x l.ticks l.events).passed ≡ x
whole-passed x l w =
    let i = cut-longest x nowhere l.ticks l.events in
    sym (all-passed (cut x l.ticks l.events).passed x i.rest _ _ _ (cut x l.ticks l.events).end i.whole w i.next)

ends-whole : (e : End) (s : _) → EndsIn e s → s ≡ None → e ≡ Whole
ends-whole Whole s h n = refl
ends-whole (Fault f p) s h n = absurd (cc)
ends-whole (Needs g p) s h n = absurd h
ends-whole (Spent p) s h n = absurd (cc)
ends-whole (Full p) s h n = absurd (cc)

-- where it ran to its end, each place was claimed, no piece was missing, and the total is of its ticks
pub all-claimed : {H : Type 0} → (IsOwn : H → Type 0) (place : H → List ℕ) (own whole : H → Trace H) → IsReady IsOwn place own whole → (root : H) (l : Limits)
    (ps : List (Piece H)) (t : ℕ) → IsCollection IsOwn place own root l ps t → (cs ds : List Claim) → {count : ℕ} → AreClaims place count ps cs →
    IsPermutation cs ds → (a : Assembled) → IsAssembled (cut (whole root) l.ticks l.events) a
    → (t ≤ l.ticks → (a.inline ≡ 0) × (a.inline_ticks ≡ 0)) → a.end ≡ None →
    AreAll own root ds × (a.inline ≡ 0) × (t + a.inline_ticks ≡ a.ticks)
all-claimed {H} IsOwn place own whole ready root l ps t coll cs ds {count} claims same a is none ended =
    let e = ends-whole (cut (whole root) l.ticks l.events).end a.end is.end ended in
    let w = whole-is-complete H place own whole ready.fills root l ps t coll.tasks coll.good e in
    let n = none w.within in
    let m = w.ticks in
    let k = ap tick_count (whole-passed (whole root) l e) in
    let i = is.ticks in (
      are-all IsOwn place own root l ps t coll cs ds claims same w.finished w.there,
      n.0,
      omega (arith, m, k, i, n.1),
    )
