-- One piece more was run.
use Rattle.std.proofs.Common.{◌≡◌, ◌<◌, ◌≤◌, ◌+◌, ℕ, suc, List, [], ◌∷◌, ◌++◌, Option, Some, None, Bool, true, false, cond, nat_lt}
use Rattle.std.proofs.Common.{refl, sym, ap, subst, ◌∙◌, arith}
use Rattle.std.specs.List.{All}
use Rattle.std.specs.Option.{is_some}
use Rattle.std.proofs.lemmas.List.Elements.{All-push, All-append}
use Rattle.std.proofs.lemmas.Bool.{true≢false}
use Rattle.std.proofs.lemmas.Bool.Decides.{nat_tests}
use Rattle.xs_trace.specs.Total.{over}
use Rattle.xs_trace.specs.Mark.{Trace}
use Rattle.xs_trace.specs.Fill.{HolesAre}
use Rattle.xs_trace.specs.declared.item.Limits.{Limits}
use Rattle.xs_core.specs.declared.place.Claim.{Claim}
use Rattle.xs_core.specs.Good.{total}
use Rattle.xs_core.proofs.SumLemmas.{total-push}
use Rattle.xs_record.specs.Outcome.{is_done}
use Rattle.xs_record.specs.Piece.{IsPiece}
use Rattle.xs_record.specs.declared.outcome.Outcome.{Outcome}
use Rattle.xs_pieces.specs.Collection.{is_finished, ticks_spent, if_run, claimed_in}
use Rattle.xs_pieces.specs.declared.piece.Piece.{Piece}
use Rattle.xs_pool.specs.Together.{all_of}
use Rattle.xs_pool.specs.Logs.{all_left, left_by, left_in, run_in, spent_in, stopped_in, IsLog, IsRan}
use Rattle.xs_pool.proofs.RunLemmas.{piece-finished, piece-over, children-are, total-join}

abbrev pub ran : {H : Type 0} → H → Outcome → Piece H
ran t o = record { task = t; outcome = Some o }

claimed-join : {H : Type 0} → (h : List ℕ → ℕ) (place : H → List ℕ) (ps qs : List (Piece H)) →
    total h (claimed_in place (ps ++ qs)) ≡ total h (claimed_in place ps) + total h (claimed_in place qs)
claimed-join h place [] qs = omega arith
claimed-join {H} h place (p ∷ ps) qs = by p.outcome (claimed-join h place ps qs)
  where
    by : (q : Option Outcome) → total h (claimed_in place (ps ++ qs)) ≡ total h (claimed_in place ps) + total h (claimed_in place qs) →
        total h (if_run q (place p.task) (claimed_in place (ps ++ qs)))
        ≡ total h (if_run q (place p.task) (claimed_in place ps)) + total h (claimed_in place qs)
    by None i = i
    by (Some x) i = omega (arith, i)

-- ---- the log of a piece that was run

module _ {H : Type 0} (place : H → List ℕ) (own : H → Trace H) (Fits : H → Type 0) (l : Limits) (count : ℕ) where
  pub no-log : (ps : List (Piece H)) (cs : List Claim) → ps ≡ [] → cs ≡ [] → IsLog place own Fits l count ps cs
  no-log ps cs e f = subst (λ (x : List (Piece H)). IsLog place own Fits l count x cs) (sym e)
      (subst (λ (y : List Claim). IsLog place own Fits l count [] y) (sym f) (record {
        pieces = λ k d m. absurd (omega (arith, m));
        claims = λ h. refl;
        workers = λ k d m. absurd (omega (arith, m));
        root = λ k d m. absurd (omega (arith, m));
      }))

  log-join : (ps qs : List (Piece H)) (cs ds : List Claim) → IsLog place own Fits l count ps cs → IsLog place own Fits l count qs ds →
      IsLog place own Fits l count (ps ++ qs) (cs ++ ds)
  log-join ps qs cs ds a b = record {
    pieces = All-append (IsRan own Fits l) ps qs a.pieces b.pieces;
    claims = λ h.
        let c = total-join (λ (x : Claim). h x.place) cs ds in
        let d = claimed-join h place ps qs in
        let e = a.claims h in
        let f = b.claims h in
        omega (arith, c, d, e, f);
    workers = All-append (λ (c : Claim). c.worker < count) cs ds a.workers b.workers;
    root = All-append (λ (c : Claim). c.place ≡ [] → c.worker ≡ 0) cs ds a.root b.root;
  }

  -- the logs of many
  pub logs-join : {M : Type 0} → (pieces : M → List (Piece H)) (claims : M → List Claim) (ms : List M) →
      All (λ m. IsLog place own Fits l count (pieces m) (claims m)) ms → IsLog place own Fits l count (all_of pieces ms) (all_of claims ms)
  logs-join pieces claims [] a = no-log [] [] refl refl
  logs-join pieces claims (m ∷ ms) a = log-join (pieces m) (all_of pieces ms) (claims m) (all_of claims ms) (a 0 m (omega arith))
      (logs-join pieces claims ms (λ j e k. a (suc j) e (omega (arith, k))))

  one-log : (t : H) (o : Outcome) (worker : ℕ) → IsRan own Fits l (ran t o) → worker < count → (place t ≡ [] → worker ≡ 0) →
      IsLog place own Fits l count (ran t o ∷ []) (record { worker = worker; place = place t } ∷ [])
  one-log t o worker is below root = record {
    pieces = All-push (IsRan own Fits l) [] (ran t o) (λ k d m. absurd (omega (arith, m))) is;
    claims = λ h. refl;
    workers = All-push (λ (c : Claim). c.worker < count) [] (record { worker = worker; place = place t }) (λ k d m. absurd (omega (arith, m))) below;
    root = All-push (λ (c : Claim). c.place ≡ [] → c.worker ≡ 0) [] (record { worker = worker; place = place t }) (λ k d m. absurd (omega (arith, m))) root;
  }

  pub log-more : (ps qs : List (Piece H)) (cs ds : List Claim) (t : H) (o : Outcome) (worker : ℕ) → IsLog place own Fits l count ps cs →
      IsRan own Fits l (ran t o) → worker < count → (place t ≡ [] → worker ≡ 0) → qs ≡ ps ++ ran t o ∷ [] →
      ds ≡ cs ++ record { worker = worker; place = place t } ∷ [] → IsLog place own Fits l count qs ds
  log-more ps qs cs ds t o worker log is below root e f =
      subst (λ (x : List (Piece H)). IsLog place own Fits l count x ds) (sym e)
      (subst (λ (y : List Claim). IsLog place own Fits l count (ps ++ ran t o ∷ []) y) (sym f)
      (log-join ps (ran t o ∷ []) cs (record { worker = worker; place = place t } ∷ []) log (one-log t o worker is below root)))

-- ---- the sums over pieces

pub run-more : {H : Type 0} → (h : H → ℕ) (ps qs : List (Piece H)) (t : H) (o : Outcome) → qs ≡ ps ++ ran t o ∷ [] → run_in h qs ≡ run_in h ps + h t
run-more h ps qs t o e =
    let a = ap (run_in h) e in
    let b = total-push (λ p. h p.task) ps (ran t o) in
    omega (arith, a, b)

-- a piece that ended in the total leaves nothing
pub left-over : {H : Type 0} → (h : H → ℕ) (own : H → Trace H) (l : Limits) (ps qs : List (Piece H)) (t : H) (o : Outcome) → is_done o.ended ≡ false →
    qs ≡ ps ++ ran t o ∷ [] → all_left h own l qs ≡ all_left h own l ps
left-over h own l ps qs t o d e =
    let a = ap (all_left h own l) e in
    let b = total-push (left_in h own l) ps (ran t o) in
    let c : cond (is_done o.ended) (total h (left_by own l t)) 0 ≡ 0 = ap (λ (x : Bool). cond x (total h (left_by own l t)) 0) d in
    omega (arith, a, b, c)

module _ {H : Type 0} (own : H → Trace H) (Fits : H → Type 0) (l : Limits) (before after last : ℕ) (t : H) (new : List H) (o : Outcome)
    (i : IsPiece (own t) l l.ticks before after last [] new o) where
  pub is-ran : Fits t → IsRan own Fits l (ran t o)
  is-ran f = record {
    fits = f;
    outcome = λ d. (piece-finished (own t) l l.ticks before after last [] new o i d).0.outcome;
    spent = λ d. (piece-over (own t) l l.ticks before after last [] new o i d).1;
  }

  -- one that is finished leaves its children
  pub left-done : (h : H → ℕ) (ps qs : List (Piece H)) → is_done o.ended ≡ true → qs ≡ ps ++ ran t o ∷ [] →
      all_left h own l qs ≡ all_left h own l ps + total h new
  left-done h ps qs d e =
      let a = ap (all_left h own l) e in
      let b = total-push (left_in h own l) ps (ran t o) in
      let c : cond (is_done o.ended) (total h (left_by own l t)) 0 ≡ total h (left_by own l t) = ap (λ (x : Bool). cond x (total h (left_by own l t)) 0) d in
      let f = ap (total h) (piece-finished (own t) l l.ticks before after last [] new o i d).0.tasks in
      omega (arith, a, b, c, f)

  pub children-wait : (Waits : H → Type 0) → HolesAre Waits (own t) → is_done o.ended ≡ true → All Waits new
  children-wait Waits h d =
      subst (All Waits) (sym (piece-finished (own t) l l.ticks before after last [] new o i d).0.tasks) (children-are Waits (own t) l h)

  pub spent-more : (ps qs : List (Piece H)) → qs ≡ ps ++ ran t o ∷ [] → spent_in qs + before ≡ spent_in ps + after
  spent-more ps qs e =
      let a = ap spent_in e in
      let b = total-push (λ (p : Piece H). ticks_spent p.outcome) ps (ran t o) in
      let c = i.added in
      omega (arith, a, b, c)

  pub stopped-once : (ps qs : List (Piece H)) → qs ≡ ps ++ ran t o ∷ [] → stopped_in qs ≤ stopped_in ps + 1
  stopped-once ps qs e =
      let a = ap stopped_in e in
      let b = total-push (λ (p : Piece H). cond (is_finished p.outcome) 0 1) ps (ran t o) in
      let c : cond (is_done o.ended) 0 1 ≤ 1 = by (is_done o.ended) in
      omega (arith, a, b, c)
    where
      by : (b : Bool) → cond b 0 1 ≤ 1
      by true = omega arith
      by false = omega arith

  -- within the limit it is finished
  pub stopped-more : (ps qs : List (Piece H)) → qs ≡ ps ++ ran t o ∷ [] → last ≤ l.ticks → stopped_in qs ≡ stopped_in ps
  stopped-more ps qs e le =
      let a = ap stopped_in e in
      let b = total-push (λ (p : Piece H). cond (is_finished p.outcome) 0 1) ps (ran t o) in
      let c : cond (is_done o.ended) 0 1 ≡ 0 = ap (λ (x : Bool). let n : ℕ = cond x 0 1 in n) (by (is_done o.ended) refl) in
      omega (arith, a, b, c)
    where
      by : (b : Bool) → is_done o.ended ≡ b → is_done o.ended ≡ true
      by true d = d
      by false d = let m = (piece-over (own t) l l.ticks before after last [] new o i d).0 in absurd (omega (arith, m, le))

-- ---- whether the total is above the limit

pub above-not : (most last : ℕ) (o : Option ℕ) (b : Bool) → o ≡ over most last → b ≡ is_some o → b ≡ false → last ≤ most
above-not most last o b e f g = by (nat_lt most last) refl (sym g ∙ f ∙ ap is_some e)
  where
    by : (c : Bool) → nat_lt most last ≡ c → false ≡ is_some (cond c (Some last) None) → last ≤ most
    by true i j = absurd (true≢false (sym j))
    by false i j = grind (arith, nat_tests, i)

pub above-so : (most last : ℕ) (o : Option ℕ) (b : Bool) → o ≡ over most last → b ≡ is_some o → b ≡ true → most < last
above-so most last o b e f g = by (nat_lt most last) refl (sym g ∙ f ∙ ap is_some e)
  where
    by : (c : Bool) → nat_lt most last ≡ c → true ≡ is_some (cond c (Some last) None) → most < last
    by true i j = grind (arith, nat_tests, i)
    by false i j = absurd (true≢false j)
