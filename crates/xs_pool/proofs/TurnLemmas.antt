-- How many pieces were claimed, by the ticks that they took: each that is finished has one at least.
use Rattle.std.proofs.Common.{◌≡◌, ◌<◌, ◌≤◌, ◌+◌, ℕ, List, [], ◌∷◌, length, Option, Some, None, Bool, true, false, cond, refl, sym, arith}
use Rattle.std.specs.List.{All}
use Rattle.std.proofs.lemmas.Bool.{true≢false}
use Rattle.std.proofs.lemmas.List.Elements.{All-head, All-tail}
use Rattle.xs_trace.specs.Mark.{Trace}
use Rattle.xs_trace.specs.declared.item.Limits.{Limits}
use Rattle.xs_core.specs.declared.place.Claim.{Claim}
use Rattle.xs_core.specs.Good.{total}
use Rattle.xs_record.specs.Outcome.{IsOutcome}
use Rattle.xs_record.specs.declared.outcome.Outcome.{Outcome}
use Rattle.xs_pieces.specs.Tree.{BeginsWithTick}
use Rattle.xs_pieces.specs.Collection.{is_finished, ticks_spent, if_run, claimed_in, IfFinished}
use Rattle.xs_pieces.specs.declared.piece.Piece.{Piece}
use Rattle.xs_pool.specs.Logs.{spent_in, stopped_in, IsLog, IsRan}
use Rattle.xs_pool.proofs.ListLemmas.{total-ones}
use Rattle.xs_pool.proofs.RunLemmas.{begins-ticks, numbers-ticks}

claimed-few : {H : Type 0} → (place : H → List ℕ) (ps : List (Piece H)) → total (λ p. 1) (claimed_in place ps) ≤ length ps
claimed-few place [] = omega arith
claimed-few {H} place (p ∷ ps) = by p.outcome (claimed-few place ps)
  where
    by : (q : Option Outcome) → total (λ (x : List ℕ). 1) (claimed_in place ps) ≤ length ps →
        total (λ (x : List ℕ). 1) (if_run q (place p.task) (claimed_in place ps)) ≤ length (p ∷ ps)
    by None i = omega (arith, i)
    by (Some o) i = omega (arith, i)

module _ {H : Type 0} (own : H → Trace H) (Fits : H → Type 0) (l : Limits) (begins : (t : H) → Fits t → BeginsWithTick (own t)) (some : 0 < l.ticks) where
  takes-one : (p : Piece H) → IsRan own Fits l p → 1 ≤ ticks_spent p.outcome + cond (is_finished p.outcome) 0 1
  takes-one p r = by p.outcome (is_finished p.outcome) refl r.outcome
    where
      by : (q : Option Outcome) (b : Bool) → is_finished q ≡ b → IfFinished (IsOutcome (own p.task) l) q → 1 ≤ ticks_spent q + cond b 0 1
      by q false e h = omega arith
      by None true e h = absurd (true≢false (sym e))
      by (Some o) true e h =
          let a = (h e).ticks in
          let b = numbers-ticks (own p.task) l in
          let c = begins-ticks (own p.task) l.ticks l.events (begins p.task r.fits) some in
          omega (arith, a, b, c)

  pieces-few : (ps : List (Piece H)) → All (IsRan own Fits l) ps → length ps ≤ spent_in ps + stopped_in ps
  pieces-few [] all = omega arith
  pieces-few (p ∷ ps) all =
      let a = takes-one p (All-head (IsRan own Fits l) p ps all) in
      let i = pieces-few ps (All-tail (IsRan own Fits l) p ps all) in
      omega (arith, a, i)

  pub claims-few : (place : H → List ℕ) (count : ℕ) (ps : List (Piece H)) (cs : List Claim) → IsLog place own Fits l count ps cs →
      length cs ≤ spent_in ps + stopped_in ps
  claims-few place count ps cs log =
      let a = total-ones cs in
      let b = log.claims (λ p. 1) in
      let c = claimed-few place ps in
      let d = pieces-few ps log.pieces in
      omega (arith, a, b, c, d)
