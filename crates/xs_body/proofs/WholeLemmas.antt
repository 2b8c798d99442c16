-- Runs, from their start.
use Rattle.std.proofs.Common.{◌≡◌, ◌+◌, ◌≤◌, ℕ, List, Option, Some, None, Result, Ok, Err, true, IfOk, OnOk, OnErr, refl, sym, ap, subst, ◌∙◌}
use Rattle.std.proofs.lemmas.Bool.{true≢false}
use Rattle.std.specs.List.{All}
use Rattle.std.specs.Option.{IsSome, is_some}
use Rattle.xs_block.specs.Chain.{most_blocks}
use Rattle.xs_record.specs.Outcome.{IsOutcome, is_done, part_blocks}
use Rattle.xs_record.specs.Piece.{EndsBy, IsPiece, IsPieceOf, Paid, started}
use Rattle.xs_record.specs.declared.outcome.Outcome.{Outcome}
use Rattle.xs_record.proofs.PieceLemmas.{of-ok}
use Rattle.xs_trace.specs.Cut.{cut}
use Rattle.xs_trace.specs.Kept.{NeedsNone}
use Rattle.xs_trace.specs.Mark.{Trace}
use Rattle.xs_trace.specs.Play.{IsStep, play}
use Rattle.xs_trace.specs.State.{State}
use Rattle.xs_trace.specs.Total.{over}
use Rattle.xs_trace.specs.declared.item.Limits.{Limits}
use Rattle.xs_trace.specs.declared.recorder.Halt.{Halt}
use Rattle.xs_trace.proofs.KeptLemmas.{need-comes-from-need}
use Rattle.xs_body.specs.Results.{IsWholeRun}
use Rattle.xs_body_spec.specs.Tasks.{Task}
use Rattle.xs_body_spec.specs.Trace.{task_trace}
use Rattle.xs_body_spec.specs.World.{World, with_grain}
use Rattle.xs_body_spec.proofs.HoleLemmas.{task-alone}
use Rattle.xs_body.proofs.PartLemmas.{whole-run}
use Rattle.xs_body_spec.proofs.NeedLemmas.{settled-needs, task-needs}

-- where there is no grain
pub no-grain : {A : Type 0} (o : Option ℕ) → o ≡ None → IsSome o → A
no-grain o e s = absurd (true≢false (sym s ∙ ap is_some e))

-- a run over settled globals ends in no need
pub task-settled : (w : World) (t : Task) (s m : State Task) (reported : Result (Unit {0}) Halt) → All IsSome w.globals →
    IsStep (play (task_trace w t) s) reported m → NeedsNone reported
task-settled w t s m reported all q =
    need-comes-from-need Task (task_trace w t) s m reported (settled-needs w.globals (task_trace w t) all (task-needs w t)) q

-- what a recorder keeps at its start
abbrev pub paid_at : {K : Type 0} → Limits → K → (most before free : ℕ) → Paid K
paid_at l total most before free = record { limits = l; total = total; most = most; all = before + l.ticks; free = free }

-- a piece, from its start
pub piece-is : {H K E : Type 0} (r : Result Outcome E) (x : Trace H) (l : Limits) (total : K) (most first before free : ℕ) (paid start : Paid K)
    (reported : Result (Unit {0}) Halt) (s0 s1 : State H) (after last : ℕ) (old new : List H) → paid ≡ start →
    start ≡ paid_at l total most before free →
    s0 ≡ started l most first → IsStep (play x s0) reported s1 → IfOk r (IsPieceOf paid reported s1 after last old new) →
    IfOk r (IsPiece x l most before after last old new)
piece-is {K = K} (Ok o) x l total most first before free paid start reported s0 s1 after last old new d e b q h =
    (subst (λ (z : Paid K). IsPieceOf z reported s1 after last old new o) (d ∙ e) h) x first before (subst (λ m. IsStep (play x m) reported s1) b q) refl
piece-is (Err f) x l total most first before free paid start reported s0 s1 after last old new d e b q h = tt

-- a piece that did not end in its total
pub outcome-is : {H : Type 0} (x : Trace H) (l : Limits) (most before after last : ℕ) (old new : List H) (o : Outcome) →
    IsPiece x l most before after last old new o → is_done o.ended ≡ true → IsOutcome x l o
outcome-is {H} x l most before after last old new o h e = by_last (over most last) h.ends
  where
    by_last : (n : Option ℕ) → EndsBy n x l old new o → IsOutcome x l o
    by_last None w = w.outcome
    by_last (Some t) w = absurd (true≢false (sym e ∙ ap is_done w.0))

-- ---- a whole run

pub whole-outcome : {E F : Type 0} (r : Result Outcome E) (q : Result Outcome F) (o : Outcome) (v w : World) (t : Task) (l : Limits)
    (most before after last : ℕ) (old new : List Task) → v ≡ w → q ≡ Ok o → IfOk q (IsPiece (task_trace v t) l most before after last old new) →
    IfOk r (λ z. z ≡ o) → OnOk r (is_done o.ended ≡ true) → IfOk r (IsOutcome (task_trace w t) l)
whole-outcome (Ok z) q o v w t l most before after last old new e a h b k =
    let piece : IsPiece (task_trace v t) l most before after last old new o = of-ok q o (IsPiece (task_trace v t) l most before after last old new) a h in
    let outcome : IsOutcome (task_trace v t) l o = outcome-is (task_trace v t) l most before after last old new o piece k in
    subst (λ (y : Outcome). IsOutcome (task_trace w t) l y) (sym b) (subst (λ (x : World). IsOutcome (task_trace x t) l o) e outcome)
whole-outcome (Err f) q o v w t l most before after last old new e a h b k = tt

pub whole-one : {E : Type 0} (r : Result Outcome E) (w : World) (t : Task) (l : Limits) → IfOk r (IsOutcome (task_trace (with_grain None w) t) l) →
    IfOk r (IsWholeRun (cut (task_trace (with_grain None w) t) l.ticks l.events))
whole-one (Ok o) w t l h = whole-run (task_trace (with_grain None w) t) l o (task-alone w t) h
whole-one (Err f) w t l h = tt

-- blocks that come back
pub blocks-back : {E F : Type 0} (r : Result Outcome E) (q : Result Outcome F) (o : Outcome) (pool free blocks left back : ℕ) → free ≡ pool →
    free ≤ most_blocks → blocks ≡ pool → q ≡ Ok o → IfOk q (λ z. blocks ≤ part_blocks z.parts.items + left) →
    OnErr r ((n : ℕ) → n ≤ most_blocks → n ≤ part_blocks o.parts.items + left → n ≤ back) → OnErr r (pool ≤ back)
blocks-back (Ok z) q o pool free blocks left back a m b e h k = tt
blocks-back (Err f) q o pool free blocks left back a m b e h k =
    let there : blocks ≤ part_blocks o.parts.items + left = of-ok q o (λ z. blocks ≤ part_blocks z.parts.items + left) e h in
    k pool (subst (λ n. n ≤ most_blocks) a m) (subst (λ n. n ≤ part_blocks o.parts.items + left) b there)
