-- Lemmas of the small evaluation.
use Rattle.std.proofs.Common.{◌≡◌, ℕ, ◌+◌, ◌≤◌, List, Option, Some, None, Result, Ok, Err, IfOk, sym, ap, subst, ◌∙◌}
use Rattle.xs_trace.specs.Mark.{Trace, NeedsNothing}
use Rattle.xs_trace.specs.State.{State}
use Rattle.xs_trace.specs.Play.{IsStep, play}
use Rattle.xs_trace.specs.declared.event.Event.{Event}
use Rattle.xs_trace.specs.declared.item.Site.{Site}
use Rattle.xs_trace.specs.declared.item.Limits.{Limits}
use Rattle.xs_trace.specs.declared.recorder.Halt.{Halt}
use Rattle.xs_record.specs.Outcome.{IsOutcome}
use Rattle.xs_record.specs.Piece.{IsPiece, IsPieceOf, Paid, started}
use Rattle.xs_record.specs.declared.outcome.Outcome.{Outcome}
use Rattle.xs_record.proofs.PieceLemmas.{never-over}
use Rattle.unit_tests.specs.Probe.{tiny}

-- it needs no global
pub tiny-needs : (p : Site) (e : Event) (k : Option ℕ) → NeedsNothing (tiny p e k)
tiny-needs p e None = tt
tiny-needs p e (Some k) = tt

-- a piece from its start
pub piece-is : {K E : Type 0} (r : Result Outcome E) (x : Trace ℕ) (paid paid1 : Paid K) (reported : Result (Unit {0}) Halt) (s0 s1 : State ℕ)
    (first after last : ℕ) (old new : List ℕ) → paid1 ≡ paid → s0 ≡ started paid.limits paid.most first → IsStep (play x s0) reported s1 →
    IfOk r (IsPieceOf paid1 reported s1 after last old new) →
    IfOk r (λ o. (before : ℕ) → paid.all ≡ before + paid.limits.ticks → IsPiece x paid.limits paid.most before after last old new o)
piece-is (Ok o) x paid paid1 reported s0 s1 first after last old new e b q h = λ before a.
    (subst (λ z. IsPieceOf z reported s1 after last old new o) e h) x first before (subst (λ m. IsStep (play x m) reported s1) b q) a
piece-is (Err f) x paid paid1 reported s0 s1 first after last old new e b q h = tt

-- a whole run from its start, with a total of its own
pub whole-is : {K E : Type 0} (r : Result Outcome E) (x : Trace ℕ) (l : Limits) (paid paid1 : Paid K) (reported : Result (Unit {0}) Halt) (s0 s1 : State ℕ)
    (first after last : ℕ) (old new : List ℕ) → paid1 ≡ paid → paid.limits ≡ l → paid.most ≡ l.ticks → paid.all ≡ 0 + l.ticks → last ≤ after →
    s0 ≡ started paid.limits paid.most first → IsStep (play x s0) reported s1 → IfOk r (IsPieceOf paid1 reported s1 after last old new) → IfOk r (IsOutcome x l)
whole-is (Ok o) x l paid paid1 reported s0 s1 first after last old new e f m a le b q h =
    let p : IsPiece x paid.limits paid.most 0 after last old new o =
    (subst (λ z. IsPieceOf z reported s1 after last old new o) e h) x first 0 (subst (λ n. IsStep (play x n) reported s1) b q)
    (a ∙ ap (λ z. 0 + z.ticks) (sym f)) in
    let w : IsPiece x l l.ticks 0 after last old new o =
    subst (λ n. IsPiece x l n 0 after last old new o) m (subst (λ z. IsPiece x z paid.most 0 after last old new o) f p) in
    (never-over ℕ x l after last old new o le w).outcome
whole-is (Err g) x l paid paid1 reported s0 s1 first after last old new e f m a le b q h = tt
