-- What a piece of a task did, seen as that of the task at its place.
use Rattle.std.proofs.Common.{◌≡◌, ◌+◌, ◌≤◌, ℕ, zero, suc, List, [], ◌∷◌, ◌++◌, refl, sym, ap, subst, ◌∙◌}
use Rattle.std.proofs.Common.{Option, Some, None, Result, Ok, Err, IfOk, OnErr, OnOk}
use Rattle.xs_block.specs.Chain.{most_blocks}
use Rattle.xs_trace.specs.Cut.{cut, cut_from, nowhere}
use Rattle.xs_trace.specs.Fill.{numbered, tasks_of}
use Rattle.xs_trace.specs.Kept.{ended_by}
use Rattle.xs_trace.specs.Mark.{Tick, Put, Say, Stop, Need, Hole, Trace, tick_count}
use Rattle.xs_trace.specs.Total.{over}
use Rattle.xs_trace.specs.declared.item.Limits.{Limits}
use Rattle.xs_trace.specs.declared.item.Site.{Site}
use Rattle.xs_record.specs.Outcome.{IsOutcome, part_blocks}
use Rattle.xs_record.specs.Piece.{EndsBy, IsBeginning, IsPiece, IsWhole}
use Rattle.xs_record.specs.declared.outcome.Outcome.{Outcome}
use Rattle.xs_body_spec.specs.Tasks.{Task}
use Rattle.xs_body_spec.specs.Trace.{task_trace}
use Rattle.xs_body_spec.specs.World.{World, with_grain}
use Rattle.xs_body_spec.proofs.HoleLemmas.{HasNoHole, task-alone}
use Rattle.xs_task_laws.specs.Placed.{Placed, at_place, marks, own, placed_from, placed_tasks, whole}

-- ---- holes by their numbers do not show tasks
numbered-placed : (p : List ℕ) (n m : ℕ) (x : Trace Task) → numbered m (placed_from p n x) ≡ numbered m x
numbered-placed p n m [] = refl
numbered-placed p n m (Tick s ∷ x) = ap (λ y. Tick s ∷ y) (numbered-placed p n m x)
numbered-placed p n m (Put e ∷ x) = ap (λ y. Put e ∷ y) (numbered-placed p n m x)
numbered-placed p n m (Say t ∷ x) = ap (λ y. Say t ∷ y) (numbered-placed p n m x)
numbered-placed p n m (Stop f s ∷ x) = ap (λ y. Stop f s ∷ y) (numbered-placed p n m x)
numbered-placed p n m (Need g s ∷ x) = ap (λ y. Need g s ∷ y) (numbered-placed p n m x)
numbered-placed p n m (Hole c ∷ x) = ap (λ y. Hole m ∷ y) (numbered-placed p (suc n) (suc m) x)

numbered-marks : (m : ℕ) (x : Trace Task) → HasNoHole x → numbered m (marks x) ≡ numbered m x
numbered-marks m [] h = refl
numbered-marks m (Tick s ∷ x) h = ap (λ y. Tick s ∷ y) (numbered-marks m x h)
numbered-marks m (Put e ∷ x) h = ap (λ y. Put e ∷ y) (numbered-marks m x h)
numbered-marks m (Say t ∷ x) h = ap (λ y. Say t ∷ y) (numbered-marks m x h)
numbered-marks m (Stop f s ∷ x) h = ap (λ y. Stop f s ∷ y) (numbered-marks m x h)
numbered-marks m (Need g s ∷ x) h = ap (λ y. Need g s ∷ y) (numbered-marks m x h)
numbered-marks m (Hole c ∷ x) h = absurd h

outcome-same : (x : Trace Task) (z : Trace Placed) → numbered 0 x ≡ numbered 0 z → (l : Limits) (o : Outcome) → IsOutcome x l o → IsOutcome z l o
outcome-same x z e l o h = record {
  marks = h.marks ∙ ap (λ y. (cut y l.ticks l.events).passed) e;
  parts = h.parts;
  ended = sym (ap (λ y. ended_by (cut y l.ticks l.events).end) e) ∙ h.ended;
  ticks = h.ticks ∙ ap (λ y. tick_count (cut y l.ticks l.events).passed) e;
}

-- ---- a cut, and the tasks of what passed it
cut-placed : (p : List ℕ) (n : ℕ) (x : Trace Task) (at : Site) (b : ℕ) (m : Option ℕ) →
    (cut_from (placed_from p n x) at b m).passed ≡ placed_from p n (cut_from x at b m).passed
cut-placed p n [] at b m = refl
cut-placed p n (Tick s ∷ x) at zero m = refl
cut-placed p n (Tick s ∷ x) at (suc b) m = ap (λ y. Tick s ∷ y) (cut-placed p n x s b m)
cut-placed p n (Put e ∷ x) at b None = ap (λ y. Put e ∷ y) (cut-placed p n x at b None)
cut-placed p n (Put e ∷ x) at b (Some zero) = refl
cut-placed p n (Put e ∷ x) at b (Some (suc m)) = ap (λ y. Put e ∷ y) (cut-placed p n x at b (Some m))
cut-placed p n (Say t ∷ x) at b m = ap (λ y. Say t ∷ y) (cut-placed p n x at b m)
cut-placed p n (Stop f s ∷ x) at b m = refl
cut-placed p n (Need g s ∷ x) at b m = refl
cut-placed p n (Hole c ∷ x) at b m = ap (λ y. Hole (at_place (p ++ n ∷ []) c) ∷ y) (cut-placed p (suc n) x at b m)

tasks-placed : (p : List ℕ) (n : ℕ) (x : Trace Task) → tasks_of (placed_from p n x) ≡ placed_tasks p n (tasks_of x)
tasks-placed p n [] = refl
tasks-placed p n (Tick s ∷ x) = tasks-placed p n x
tasks-placed p n (Put e ∷ x) = tasks-placed p n x
tasks-placed p n (Say t ∷ x) = tasks-placed p n x
tasks-placed p n (Stop f s ∷ x) = tasks-placed p n x
tasks-placed p n (Need g s ∷ x) = tasks-placed p n x
tasks-placed p n (Hole c ∷ x) = ap (λ ts. at_place (p ++ n ∷ []) c ∷ ts) (tasks-placed p (suc n) x)

-- the number of the hole after those of a trace
next_number : ℕ → Trace Task → ℕ
next_number n [] = n
next_number n (Tick s ∷ x) = next_number n x
next_number n (Put e ∷ x) = next_number n x
next_number n (Say t ∷ x) = next_number n x
next_number n (Stop f s ∷ x) = next_number n x
next_number n (Need g s ∷ x) = next_number n x
next_number n (Hole c ∷ x) = next_number (suc n) x

placed-joined : (p : List ℕ) (n : ℕ) (x y : Trace Task) → placed_from p n (x ++ y) ≡ placed_from p n x ++ placed_from p (next_number n x) y
unfolding next_number
placed-joined p n [] y = refl
placed-joined p n (Tick s ∷ x) y = ap (λ z. Tick s ∷ z) (placed-joined p n x y)
placed-joined p n (Put e ∷ x) y = ap (λ z. Put e ∷ z) (placed-joined p n x y)
placed-joined p n (Say t ∷ x) y = ap (λ z. Say t ∷ z) (placed-joined p n x y)
placed-joined p n (Stop f s ∷ x) y = ap (λ z. Stop f s ∷ z) (placed-joined p n x y)
placed-joined p n (Need g s ∷ x) y = ap (λ z. Need g s ∷ z) (placed-joined p n x y)
placed-joined p n (Hole c ∷ x) y = ap (λ z. Hole (at_place (p ++ n ∷ []) c) ∷ z) (placed-joined p (suc n) x y)

-- ---- a piece, whose children are put at their places after those that are there
module _ (p : List ℕ) (x : Trace Task) (l : Limits) (ts : List Task) (old new : List Placed) (put : new ≡ old ++ placed_tasks p 0 ts) where
  -- the children of marks that passed
  children-of : (y : Trace Task) → ts ≡ tasks_of y → new ≡ old ++ tasks_of (placed_from p 0 y)
  children-of y e = put ∙ ap (λ us. old ++ placed_tasks p 0 us) e ∙ sym (ap (λ us. old ++ us) (tasks-placed p 0 y))

  whole-placed : (o : Outcome) → IsWhole x l [] ts o → IsWhole (placed_from p 0 x) l old new o
  whole-placed o h = record {
    outcome = outcome-same x (placed_from p 0 x) (sym (numbered-placed p 0 0 x)) l o h.outcome;
    tasks = children-of (cut x l.ticks l.events).passed h.tasks ∙ ap (λ y. old ++ tasks_of y) (sym (cut-placed p 0 x nowhere l.ticks l.events));
  }

  beginning-placed : (o : Outcome) → IsBeginning x l [] ts o → IsBeginning (placed_from p 0 x) l old new o
  beginning-placed o h = record {
    marks = placed_from p 0 h.marks;
    rest = placed_from p (next_number 0 h.marks) h.rest;
    passed = cut-placed p 0 x nowhere l.ticks l.events ∙ ap (placed_from p 0) h.passed ∙ placed-joined p 0 h.marks h.rest;
    parts = h.parts ∙ sym (numbered-placed p 0 0 h.marks);
    tasks = children-of h.marks h.tasks;
  }

  ends-placed : (v : Option ℕ) (o : Outcome) → EndsBy v x l [] ts o → EndsBy v (placed_from p 0 x) l old new o
  ends-placed None o h = whole-placed o h
  ends-placed (Some t) o h = (h.0, beginning-placed o h.1)

  piece-placed : (most before after last : ℕ) (o : Outcome) → IsPiece x l most before after last [] ts o →
      IsPiece (placed_from p 0 x) l most before after last old new o
  piece-placed most before after last o h = record { added = h.added; ticks = h.ticks; parts = h.parts; ends = ends-placed (over most last) o h.ends }

-- where memory is there for the children too
piece-adopted : {E : Type 0} (r s : Result Outcome E) (p : List ℕ) (x : Trace Task) (l : Limits) (none ts : List Task) (old new : List Placed)
    (most before after last : ℕ) → none ≡ [] → IfOk r (λ o. s ≡ Ok o) → OnOk r (new ≡ old ++ placed_tasks p 0 ts) →
    IfOk s (IsPiece x l most before after last none ts) → IfOk r (IsPiece (placed_from p 0 x) l most before after last old new)
piece-adopted (Ok o) s p x l none ts old new most before after last n e put h =
    piece-placed p x l ts old new put most before after last o
    (subst (λ (us : List Task). IsPiece x l most before after last us ts o) n
    (subst (λ (r : Result Outcome _). IfOk r (IsPiece x l most before after last none ts)) e h))
piece-adopted (Err f) s p x l none ts old new most before after last n e put h = tt

pub piece-ran : {E : Type 0} (r s : Result Outcome E) (v w : World) (p : List ℕ) (u : Task) (t : Placed) (l : Limits) (none ts : List Task)
    (old new : List Placed) (most before after last : ℕ) → v ≡ w → at_place p u ≡ t → none ≡ [] → IfOk r (λ o. s ≡ Ok o) →
    OnOk r (new ≡ old ++ placed_tasks p 0 ts) → IfOk s (IsPiece (task_trace v u) l most before after last none ts) →
    IfOk r (IsPiece (own w t) l most before after last old new)
piece-ran r s v w p u t l none ts old new most before after last e f n q put h =
    subst (λ (x : World). IfOk r (IsPiece (own x t) l most before after last old new)) e
    (subst (λ (y : Placed). IfOk r (IsPiece (own v y) l most before after last old new)) f
    (piece-adopted r s p (task_trace v u) l none ts old new most before after last n q put h))

-- no block is lost
pub ok-blocks : {E : Type 0} (r : Result Outcome E) (o : Outcome) (n pool : ℕ) → r ≡ Ok o → IfOk r (λ p. n ≤ part_blocks p.parts.items + pool) →
    n ≤ part_blocks o.parts.items + pool
ok-blocks {E} r o n pool e h = subst (λ (s : Result Outcome E). IfOk s (λ p. n ≤ part_blocks p.parts.items + pool)) e h

pub blocks-adopted : {E : Type 0} (r s : Result Outcome E) (free back after : ℕ) → IfOk r (λ o. s ≡ Ok o) → OnOk r (after ≡ back) →
    IfOk s (λ o. free ≤ part_blocks o.parts.items + back) → IfOk r (λ o. free ≤ part_blocks o.parts.items + after)
blocks-adopted (Ok o) s free back after e k h =
    subst (λ (n : ℕ). free ≤ part_blocks o.parts.items + n) (sym k)
    (subst (λ (r : Result Outcome _). IfOk r (λ o. free ≤ part_blocks o.parts.items + back)) e h)
blocks-adopted (Err f) s free back after e k h = tt

pub free-adopted : {E : Type 0} (r s : Result Outcome E) (free back after : ℕ) → free ≤ most_blocks →
    IfOk s (λ o. free ≤ part_blocks o.parts.items + back) → OnErr s (free ≤ back) →
    OnErr r ((n : ℕ) → n ≤ most_blocks → IfOk s (λ o. n ≤ part_blocks o.parts.items + back) → OnErr s (n ≤ back) → n ≤ after) →
    OnErr r (free ≤ after)
free-adopted (Ok o) s free back after m b f h = tt
free-adopted (Err e) s free back after m b f h = h free m b f

-- ---- a whole run
whole-outcome : (w : World) (t : Placed) (l : Limits) (o : Outcome) → IsOutcome (task_trace (with_grain None w) t.task) l o → IsOutcome (whole w t) l o
whole-outcome w t l o h =
    let x : Trace Task = task_trace (with_grain None w) t.task in
    outcome-same x (marks x) (sym (numbered-marks 0 x (task-alone w t.task))) l o h

pub whole-ran : {E : Type 0} (r : Result Outcome E) (v w : World) (p : List ℕ) (u : Task) (t : Placed) (l : Limits) → v ≡ w → at_place p u ≡ t →
    IfOk r (IsOutcome (task_trace (with_grain None v) u) l) → IfOk r (IsOutcome (whole w t) l)
whole-ran (Ok o) v w p u t l e f h =
    subst (λ (x : World). IsOutcome (whole x t) l o) e
    (subst (λ (y : Placed). IsOutcome (whole v y) l o) f (whole-outcome v (at_place p u) l o h))
whole-ran (Err x) v w p u t l e f h = tt
