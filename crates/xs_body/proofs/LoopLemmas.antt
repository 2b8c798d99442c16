-- A turn of the loop: what the evaluation reports from here on stays what the whole reports.
use Rattle.std.proofs.Common.{◌≡◌, ℕ, length, List, [], ◌∷◌, Result, Err, refl, sym, ap, ◌∙◌}
use Rattle.xs_trace.specs.Mark.{Trace}
use Rattle.xs_trace.specs.State.{State}
use Rattle.xs_trace.specs.Play.{Goes, Reported, and_then, goes, IsStep, IsStepBy, play}
use Rattle.xs_trace.specs.declared.recorder.Halt.{Halt}
use Rattle.xs_trace.specs.declared.item.Site.{Site}
use Rattle.xs_trace.proofs.GrowthLemmas.{passes}
use Rattle.xs_trace.proofs.PlayLemmas.{then-then, then-goes}
use Rattle.xs_value.specs.declared.value.Value.{Value}
use Rattle.xs_attribute_sets.specs.Indexed.{IsSetIndex}
use Rattle.xs_body_spec.specs.declared.focus.Focus.{Focus}
use Rattle.xs_body_spec.specs.World.{World}
use Rattle.xs_body_spec.specs.Tasks.{Job, body_job, rules_job, Task}
use Rattle.xs_body_spec.specs.Trace.{fitting, each, body_trace, job_trace, task_trace}
use Rattle.xs_body.specs.steps.Frames.{Work, Evaluation, last, pushed, stack_steps, stack_reported, advanced, begun_job, begun_with, filled}
use Rattle.xs_body_spec.specs.Trace.{calls_at}
use Rattle.xs_body.proofs.SlotLemmas.{last-all}
use Rattle.xs_body.proofs.GrowthLemmas.{stack-grows}
use Rattle.xs_body.proofs.StepLemmas.{advances}

abbrev pub HasSets : Evaluation → Type 0
HasSets t = IsSetIndex t.world.sheet.sets t.world.index

comes-to : (k : Reported Task) (t u : Evaluation) (b : Work) (s : State Task) → HasSets u → k ≡ stack_reported t s → t ≡ pushed (b ∷ []) u →
    k ≡ and_then (advanced b u s) stack_reported
comes-to k t u b s i e q = e ∙ ap (λ (v : Evaluation). stack_reported v s) q ∙ advances b u i s

pub goes-on : (k : Reported Task) (t u v : Evaluation) (b : Work) (s m : State Task) → HasSets u → k ≡ stack_reported t s → t ≡ pushed (b ∷ []) u →
    advanced b u s ≡ Goes v m → k ≡ stack_reported v m
goes-on k t u v b s m i e q a = comes-to k t u b s i e q ∙ ap (λ g. and_then g stack_reported) a

pub breaks-off : (k : Reported Task) (t u v : Evaluation) (b : Work) (s m : State Task) (r : Result (Unit {0}) Halt) (y h : Halt) → HasSets u →
    k ≡ stack_reported t s → t ≡ pushed (b ∷ []) u → r ≡ Err y → y ≡ h → IsStepBy {A = Evaluation} {B = Unit {0}} (λ x. v) (advanced b u s) (Err h) m
    → IsStep k r m
breaks-off k t u v b s m r y h i e q a c d =
    passes (λ (x : Unit {0}). v) (λ x. x) k (advanced b u s) stack_reported m r y h (comes-to k t u b s i e q)
    (λ (z : Evaluation). stack-grows z.world z.works z.slots) a c d

-- a task is what the evaluation reports that it begins with
pub alone : (w : World) (x : Trace Task) (vs : List Value) (s : State Task) → play x s ≡ and_then (filled x vs s) (λ us m. stack_steps w [] us m)
alone w x vs s = sym (then-goes (play x s)) ∙ sym (then-then (play x s) (λ u m. Goes vs m) (λ us m. stack_steps w [] us m))

job-starts : (job : Job) (w : World) (ns : List ℕ) (first : ℕ) (p : Site) (f : Focus) (s : State Task) →
    play (each p (job_trace job w (calls_at w f) p) f first ns) s
    ≡ stack_reported (begun_job job w (record { job = job; site = p; focus = f; first = first; nodes = ns })) s
job-starts (body_job body vs) w ns first p f s =
    let x : List Value → Trace Task = λ us. each p (λ g. body_trace body w (calls_at w f) g us) f first ns in
    ap (λ us. play (x us) s) (sym (last-all vs)) ∙ alone w (x (last (length vs) vs)) vs s
job-starts (rules_job mode ps) w ns first p f s = alone w (each p (calls_at w f (fitting mode ps) p) f first ns) [] s

pub task-starts : (w : World) (t : Task) (u : Evaluation) (s : State Task) → u ≡ begun_with w t → play (task_trace w t) s ≡ stack_reported u s
task-starts w t u s e = job-starts t.job w t.nodes t.first t.site t.focus s ∙ ap (λ (v : Evaluation). stack_reported v s) (sym e)

-- over the world in which it begins
job-world : (job : Job) (w : World) (t : Task) → (begun_job job w t).world ≡ w
job-world (body_job body vs) w t = refl
job-world (rules_job mode ps) w t = refl

pub begun-world : (w : World) (t : Task) (u : Evaluation) → u ≡ begun_with w t → u.world ≡ w
begun-world w t u e = ap (λ (v : Evaluation). v.world) e ∙ job-world t.job w t
