-- What a task does with all that it leaves, cut: the marks of its trace without a grain.
use Rattle.std.proofs.Common.{◌≡◌, ℕ, zero, suc, [], ◌∷◌, refl, ap, ◌∙◌, Option, Some, None}
use Rattle.xs_trace.specs.Cut.{cut, cut_from, nowhere}
use Rattle.xs_trace.specs.Mark.{Tick, Put, Say, Stop, Need, Hole, Trace, events_of, messages_of, tick_count}
use Rattle.xs_trace.specs.declared.item.Site.{Site}
use Rattle.xs_body_spec.specs.Tasks.{Task}
use Rattle.xs_body_spec.specs.Trace.{task_trace}
use Rattle.xs_body_spec.specs.World.{World, with_grain}
use Rattle.xs_body_spec.proofs.HoleLemmas.{HasNoHole, task-alone}
use Rattle.xs_task_laws.specs.Laws.{Agree}
use Rattle.xs_task_laws.specs.Placed.{Placed, marks, whole}

marks-end : (x : Trace Task) → HasNoHole x → (at : Site) (b : ℕ) (m : Option ℕ) → (cut_from (marks x) at b m).end ≡ (cut_from x at b m).end
marks-end [] h at b m = refl
marks-end (Tick s ∷ x) h at zero m = refl
marks-end (Tick s ∷ x) h at (suc b) m = marks-end x h s b m
marks-end (Put e ∷ x) h at b None = marks-end x h at b None
marks-end (Put e ∷ x) h at b (Some zero) = refl
marks-end (Put e ∷ x) h at b (Some (suc m)) = marks-end x h at b (Some m)
marks-end (Say t ∷ x) h at b m = marks-end x h at b m
marks-end (Stop f s ∷ x) h at b m = refl
marks-end (Need g s ∷ x) h at b m = refl
marks-end (Hole c ∷ x) h at b m = absurd h

marks-passed : (x : Trace Task) → HasNoHole x → (at : Site) (b : ℕ) (m : Option ℕ) →
    (cut_from (marks x) at b m).passed ≡ marks (cut_from x at b m).passed
marks-passed [] h at b m = refl
marks-passed (Tick s ∷ x) h at zero m = refl
marks-passed (Tick s ∷ x) h at (suc b) m = ap (λ y. Tick s ∷ y) (marks-passed x h s b m)
marks-passed (Put e ∷ x) h at b None = ap (λ y. Put e ∷ y) (marks-passed x h at b None)
marks-passed (Put e ∷ x) h at b (Some zero) = refl
marks-passed (Put e ∷ x) h at b (Some (suc m)) = ap (λ y. Put e ∷ y) (marks-passed x h at b (Some m))
marks-passed (Say t ∷ x) h at b m = ap (λ y. Say t ∷ y) (marks-passed x h at b m)
marks-passed (Stop f s ∷ x) h at b m = refl
marks-passed (Need g s ∷ x) h at b m = refl
marks-passed (Hole c ∷ x) h at b m = absurd h

marks-events : (x : Trace Task) → events_of (marks x) ≡ events_of x
marks-events [] = refl
marks-events (Tick s ∷ x) = marks-events x
marks-events (Put e ∷ x) = ap (λ es. e ∷ es) (marks-events x)
marks-events (Say t ∷ x) = marks-events x
marks-events (Stop f s ∷ x) = marks-events x
marks-events (Need g s ∷ x) = marks-events x
marks-events (Hole c ∷ x) = marks-events x

marks-messages : (x : Trace Task) → messages_of (marks x) ≡ messages_of x
marks-messages [] = refl
marks-messages (Tick s ∷ x) = marks-messages x
marks-messages (Put e ∷ x) = marks-messages x
marks-messages (Say t ∷ x) = ap (λ ts. t ∷ ts) (marks-messages x)
marks-messages (Stop f s ∷ x) = marks-messages x
marks-messages (Need g s ∷ x) = marks-messages x
marks-messages (Hole c ∷ x) = marks-messages x

marks-ticks : (x : Trace Task) → tick_count (marks x) ≡ tick_count x
marks-ticks [] = refl
marks-ticks (Tick s ∷ x) = ap suc (marks-ticks x)
marks-ticks (Put e ∷ x) = marks-ticks x
marks-ticks (Say t ∷ x) = marks-ticks x
marks-ticks (Stop f s ∷ x) = marks-ticks x
marks-ticks (Need g s ∷ x) = marks-ticks x
marks-ticks (Hole c ∷ x) = marks-ticks x

pub whole-agrees : (w : World) (t : Placed) (b : ℕ) (m : Option ℕ) → Agree (cut (whole w t) b m) (cut (task_trace (with_grain None w) t.task) b m)
whole-agrees w t b m =
    let x : Trace Task = task_trace (with_grain None w) t.task in
    let e : (cut (marks x) b m).passed ≡ marks (cut x b m).passed = marks-passed x (task-alone w t.task) nowhere b m in
    record {
      end = marks-end x (task-alone w t.task) nowhere b m;
      events = ap events_of e ∙ marks-events (cut x b m).passed;
      messages = ap messages_of e ∙ marks-messages (cut x b m).passed;
      ticks = ap tick_count e ∙ marks-ticks (cut x b m).passed;
    }
