-- The laws of filled traces.
use Rattle.std.proofs.Common.{◌≡◌, [], ◌∷◌, refl, sym, ap, ◌∙◌}
use Rattle.xs_trace.specs.Mark.{Tick, Put, Say, Stop, Need, Hole, Trace, ◌⨾◌, without_puts}
use Rattle.xs_trace.specs.Fill.{fill, tasks_of, FillLaws}
use Rattle.xs_trace.proofs.CutLemmas.{then-assoc}

fill-then : {H K : Type 0} (f : H → Trace K) (x y : Trace H) → fill f (x ⨾ y) ≡ fill f x ⨾ fill f y
fill-then f [] y = refl
fill-then f (Tick p ∷ x) y = ap (λ t. Tick p ∷ t) (fill-then f x y)
fill-then f (Put e ∷ x) y = ap (λ t. Put e ∷ t) (fill-then f x y)
fill-then f (Say s ∷ x) y = ap (λ t. Say s ∷ t) (fill-then f x y)
fill-then f (Stop n p ∷ x) y = refl
fill-then f (Need g p ∷ x) y = refl
fill-then f (Hole k ∷ x) y = ap (λ t. f k ⨾ t) (fill-then f x y) ∙ sym (then-assoc (f k) (fill f x) (fill f y))

kept-tasks : {H : Type 0} (x : Trace H) → tasks_of (without_puts x) ≡ tasks_of x
kept-tasks [] = refl
kept-tasks (Tick p ∷ x) = kept-tasks x
kept-tasks (Put e ∷ x) = kept-tasks x
kept-tasks (Say s ∷ x) = kept-tasks x
kept-tasks (Stop n p ∷ x) = kept-tasks x
kept-tasks (Need g p ∷ x) = kept-tasks x
kept-tasks (Hole k ∷ x) = ap (λ t. k ∷ t) (kept-tasks x)

pub fill-laws : (H K : Type 0) → FillLaws H K
fill-laws H K = record { joins = fill-then; captured_tasks = kept-tasks }
