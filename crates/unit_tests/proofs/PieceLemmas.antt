-- What a recorder gives of a piece, from its start.
use Rattle.std.proofs.Common.{◌≡◌, ◌+◌, ◌≤◌, ℕ, List, Result, Ok, Err, IfOk, refl, subst, ◌∙◌}
use Rattle.xs_record.specs.Outcome.{IsOutcome}
use Rattle.xs_record.specs.Piece.{IsPiece, IsPieceOf, Paid, started}
use Rattle.xs_record.specs.declared.outcome.Outcome.{Outcome}
use Rattle.xs_record.proofs.PieceLemmas.{never-over}
use Rattle.xs_trace.specs.Mark.{Trace}
use Rattle.xs_trace.specs.Play.{IsStep, play}
use Rattle.xs_trace.specs.State.{State}
use Rattle.xs_trace.specs.declared.item.Limits.{Limits}
use Rattle.xs_trace.specs.declared.recorder.Halt.{Halt}

-- what a recorder keeps at its start
abbrev pub paid_at : {K : Type 0} → Limits → K → (most before free : ℕ) → Paid K
paid_at l total most before free = record { limits = l; total = total; most = most; all = before + l.ticks; free = free }

pub piece-is : {H K E : Type 0} (r : Result Outcome E) (x y : Trace H) (l : Limits) (total : K) (most first before free : ℕ) (paid start : Paid K)
    (reported : Result (Unit {0}) Halt) (s0 s1 : State H) (after last : ℕ) (old new : List H) → x ≡ y → paid ≡ start → start
    ≡ paid_at l total most before free →
    s0 ≡ started l most first → IsStep (play x s0) reported s1 → IfOk r (IsPieceOf paid reported s1 after last old new) →
    IfOk r (IsPiece y l most before after last old new)
piece-is {H} {K = K} (Ok o) x y l total most first before free paid start reported s0 s1 after last old new same d e b q h =
    subst (λ (z : Trace H). IsPiece z l most before after last old new o) same
    ((subst (λ (z : Paid K). IsPieceOf z reported s1 after last old new o) (d ∙ e) h) x first before (subst (λ m. IsStep (play x m) reported s1) b q) refl)
piece-is (Err f) x y l total most first before free paid start reported s0 s1 after last old new same d e b q h = tt

-- a whole run: its total is its own
pub whole-is : {H K E : Type 0} (r : Result Outcome E) (x y : Trace H) (l : Limits) (total : K) (most first before free : ℕ) (paid start : Paid K)
    (reported : Result (Unit {0}) Halt) (s0 s1 : State H) (after last : ℕ) (old new : List H) → x ≡ y → paid ≡ start → start
    ≡ paid_at l total most before free →
    s0 ≡ started l most first → IsStep (play x s0) reported s1 → IfOk r (IsPieceOf paid reported s1 after last old new) → most ≡ l.ticks → before ≡ 0
    → last ≤ after →
    IfOk r (IsOutcome y l)
whole-is {H} (Ok o) x y l total most first before free paid start reported s0 s1 after last old new same d e b q h m z w =
    let r : Result Outcome (Unit {0}) = Ok o in
    let p : IsPiece y l most before after last old new o =
    piece-is r x y l total most first before free paid start reported s0 s1 after last old new same d e b q h in
    (never-over H y l after last old new o w
    (subst (λ n. IsPiece y l l.ticks n after last old new o) z (subst (λ n. IsPiece y l n before after last old new o) m p))).outcome
whole-is (Err f) x y l total most first before free paid start reported s0 s1 after last old new same d e b q h m z w = tt
