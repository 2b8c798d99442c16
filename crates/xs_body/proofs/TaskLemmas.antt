-- Tasks that begin.
use Rattle.std.proofs.Common.{◌≡◌, ◌∷◌, ◌∙◌, [], ℕ, List, OnOk, Result, ap, length, subst, sym}
use Rattle.std.proofs.lemmas.List.Elements.{All-nil}
use Rattle.xs_sheet.specs.declared.body.Body.{Body}
use Rattle.xs_tree.specs.Record.{Record}
use Rattle.xs_value.specs.Conversion.{IsIn}
use Rattle.xs_value.specs.declared.value.Value.{Value}
use Rattle.xs_body_spec.specs.Tasks.{Job, Params, Task, body_job, rules_job}
use Rattle.xs_body_spec.specs.World.{World}
use Rattle.xs_body.specs.Inside.{AreValues, IsJobIn}
use Rattle.xs_body.specs.steps.Frames.{Evaluation, apply_left, begun_job, begun_with, each_left, idle, pushed}
use Rattle.xs_body.specs.steps.Jobs.{locals_of}

pub locals-inside : (rs : List Record) (job : Job) → IsJobIn rs job → AreValues rs (locals_of job)
locals-inside rs (body_job body vs) h = h
locals-inside rs (rules_job mode ps) h = All-nil (IsIn rs)

-- with these values, before anything is to be done
pub starts-idle : (w : World) (t : Task) (u : Evaluation) (vs : List Value) → u ≡ idle w vs → vs ≡ locals_of t.job → u ≡ idle u.world (locals_of t.job)
starts-idle w t u vs e q =
    e ∙ ap (λ (v : World). idle v vs) (sym (ap (λ (x : Evaluation). x.world) e)) ∙ ap (λ (us : List Value). idle u.world us) q

-- what begins, where the task is a body, or rules
pub begins-loop : {T E : Type 0} (t : Task) (u v : Evaluation) (body : Body) (vs : List Value) (n : ℕ) (r : Result T E) → t.job ≡ body_job body vs →
    n ≡ length vs → u ≡ idle u.world (locals_of t.job) →
    OnOk r (v ≡ pushed (each_left body t.site (record { focus = t.focus; seen = n; own = 0 }) t.first t.nodes ∷ []) u) → OnOk r (v ≡ begun_with u.world t)
begins-loop t u v body vs n r a q i h =
    let e = ap (λ m. pushed (each_left body t.site (record { focus = t.focus; seen = m; own = 0 }) t.first t.nodes ∷ []) u) q
    ∙ ap (λ (x : Evaluation). pushed (each_left body t.site (record { focus = t.focus; seen = length vs; own = 0 }) t.first t.nodes ∷ []) x)
    (i ∙ ap (λ (j : Job). idle u.world (locals_of j)) a)
    ∙ ap (λ (j : Job). begun_job j u.world t) (sym a) in
    subst (λ (x : Evaluation). OnOk r (v ≡ x)) e h

pub begins-rules : {T E : Type 0} (t : Task) (u v : Evaluation) (mode : ℕ) (ps : Params) (r : Result T E) → t.job ≡ rules_job mode ps →
    u ≡ idle u.world (locals_of t.job) → OnOk r (v ≡ pushed (apply_left mode ps t.site t.focus t.first t.nodes ∷ []) u) → OnOk r (v ≡ begun_with u.world t)
begins-rules t u v mode ps r a i h =
    let e = ap (λ (x : Evaluation). pushed (apply_left mode ps t.site t.focus t.first t.nodes ∷ []) x) (i ∙ ap (λ (j : Job). idle u.world (locals_of j)) a)
    ∙ ap (λ (j : Job). begun_job j u.world t) (sym a) in
    subst (λ (x : Evaluation). OnOk r (v ≡ x)) e h
