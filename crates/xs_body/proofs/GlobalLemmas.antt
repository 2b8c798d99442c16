-- Attempts at globals, step by step.
use Rattle.std.proofs.Common.{◌≡◌, List, [], ◌∷◌, Result, Err, refl, sym, ap, subst, ◌∙◌}
use Rattle.xs_sheet.specs.declared.body.Binding.{Binding}
use Rattle.xs_sheet.specs.declared.body.Body.{Body}
use Rattle.xs_sheet.specs.declared.scoped.ScopedExpr.{ScopedExpr}
use Rattle.xs_sheet.specs.declared.body.Content.{Content}
use Rattle.xs_sheet.specs.declared.body.Content.TheVariants.{Select, Body as Fragment}
use Rattle.xs_trace.specs.Mark.{Trace, captured, events_of, without_puts}
use Rattle.xs_trace.specs.Run.{Run, Answer, Gives, Faults, Lacks, answered, evaluated, limited}
use Rattle.xs_trace.specs.State.{State, opened, popped, top}
use Rattle.xs_trace.specs.Play.{Step, Goes, and_then, goes, ticked_by, play, IsStep}
use Rattle.xs_trace.specs.declared.event.Event.{Event}
use Rattle.xs_trace.specs.declared.item.Site.{Site}
use Rattle.xs_trace.specs.declared.recorder.Halt.{Halt}
use Rattle.xs_trace.proofs.GrowthLemmas.{Grows, goes-grows, grows-then, passes, play-grows}
use Rattle.xs_trace.proofs.CutLemmas.{then-nil}
use Rattle.xs_trace.proofs.PlayLemmas.{then-same, then-then, captures-from}
use Rattle.xs_trace.proofs.RunLemmas.{play-evaluated}
use Rattle.xs_value.specs.declared.value.Value.{Value}
use Rattle.xs_value.specs.declared.value.Value.TheVariants.{Piece}
use Rattle.xs_body_spec.specs.declared.focus.Focus.{Focus}
use Rattle.xs_body_spec.specs.World.{World, value_run}
use Rattle.xs_body_spec.specs.Tasks.{Task}
use Rattle.xs_body_spec.specs.Trace.{body_trace, content_trace, fragment_of, instrs_trace}
use Rattle.xs_body_spec.specs.Globals.{content_value, global_focus, value_in}
use Rattle.xs_body.specs.steps.Attempts.{binding_steps, fragment_steps}
use Rattle.xs_body.specs.steps.Frames.{Evaluation, idle, rest, last, without, outer, instrs_of, fragment_at, pushed, stack_reported}
use Rattle.xs_body_spec.specs.Trace.{calls_at}
use Rattle.xs_body.proofs.GrowthLemmas.{popped-grows}
use Rattle.xs_body.proofs.LoopLemmas.{alone}
use Rattle.xs_body.proofs.RowLemmas.{body-instrs}
use Rattle.xs_body.proofs.SlotLemmas.{last-none}

-- the value of an expression, once it is reported
answer-same : (p : Site) (a : Answer Value) (s : State Task) → answered p a s ≡ and_then (answered p a s) (λ x m. Goes (value_in a) m)
answer-same p (Gives v) s = refl
answer-same p (Faults f) s = refl
answer-same p (Lacks g) s = refl

pub select-reported : (p : Site) (r : Run Value) (s : State Task) →
    limited p r s ≡ and_then (play (evaluated p r (λ v. [])) s) (λ u m. Goes (value_in r.end) m)
select-reported p r s =
    then-same (ticked_by r.cost p s) (λ u m. answered p r.end m) (λ u m. and_then (answered p r.end m) (λ x n. Goes (value_in r.end) n))
    (λ u m. answer-same p r.end m)
    ∙ sym (then-then (ticked_by r.cost p s) (λ u m. answered p r.end m) (λ x n. Goes (value_in r.end) n))
    ∙ sym (then-then (limited p r s) (λ x m. goes m) (λ u m. Goes (value_in r.end) m))
    ∙ ap (λ g. and_then g (λ u m. Goes (value_in r.end) m)) (sym (play-evaluated p r (λ v. []) s))

-- the fragment of captured content, once it is reported
pub content-reported : (x : Trace Task) (s : State Task) →
    and_then (play x (opened s)) (λ u m. Goes (fragment_at m) (popped m)) ≡ and_then (play (captured x (λ es. [])) s)
    (λ u m. Goes (Piece (fragment_of (events_of x))) m)
content-reported x s =
    let h : List Event → State Task → Step Task Value = λ es m. Goes (Piece (fragment_of es)) m in
    sym (then-then (play x (opened s)) (λ u m. Goes (top m.captures) (popped m)) h)
    ∙ ap (λ g. and_then g h) (captures-from x [] s.captures s)
    ∙ then-then (play (without_puts x) s) (λ u m. Goes (events_of x) m) h
    ∙ ap (λ y. and_then (play y s) (λ u m. Goes (Piece (fragment_of (events_of x))) m)) (sym (then-nil (without_puts x)))

-- the content of a global is what the stack reports that it begins with
pub content-starts : (w : World) (body : Body) (f : Focus) (t : Evaluation) (s : State Task) →
    t ≡ pushed (rest (instrs_of body) (outer f) ∷ []) (idle w []) →
    play (body_trace body w (calls_at w f) f []) s ≡ stack_reported t s
content-starts w body f t s e =
    let x : List Value → Trace Task = λ vs. instrs_trace (instrs_of body) w (calls_at w f) f vs in
    ap (λ y. play y s) (body-instrs body w (calls_at w f) f [])
    ∙ ap (λ vs. play (x vs) s) (sym (last-none []))
    ∙ alone w (x (last 0 [])) (without 0 []) s
    ∙ ap (λ (u : Evaluation). stack_reported u s) (sym e)

abbrev Closes : Step Task (Unit {0}) → Step Task Value
Closes g = and_then g (λ u n. Goes (fragment_at n) (popped n))

fragment-opened : (w : World) (body : Body) (t : Evaluation) (s s1 : State Task) →
    t ≡ pushed (rest (instrs_of body) (outer (global_focus w)) ∷ []) (idle w []) → goes (opened s) ≡ goes s1 →
    fragment_steps w body s ≡ Closes (stack_reported t s1)
fragment-opened w body t s s1 e o =
    let x : Trace Task = body_trace body w (calls_at w (global_focus w)) (global_focus w) [] in
    ap (λ j. and_then j (λ u n. Closes (play x n))) o ∙ ap (λ g. Closes g) (content-starts w body (global_focus w) t s1 e)

-- an end in it is an end of the attempt
pub content-exit : (w : World) (body : Body) (t : Evaluation) (s s1 m : State Task) (r : Result Value Halt) (y h : Halt) →
    t ≡ pushed (rest (instrs_of body) (outer (global_focus w)) ∷ []) (idle w []) → goes (opened s) ≡ goes s1 → r ≡ Err y → y ≡ h →
    IsStep (stack_reported t s1) (Err h) m → IsStep (fragment_steps w body s) r m
content-exit w body t s s1 m r y h e o a b i =
    passes (λ (x : Unit {0}). x) (λ (v : Value). v) (fragment_steps w body s) (stack_reported t s1) (λ u n. Goes (fragment_at n) (popped n)) m r y h
    (fragment-opened w body t s s1 e o) (λ u. popped-grows (λ n k. Goes (fragment_at n) k) (λ n. goes-grows (fragment_at n))) a b i

pub content-ends : (w : World) (body : Body) (t : Evaluation) (s s1 m n : State Task) (v : Value) (es : List Event) →
    t ≡ pushed (rest (instrs_of body) (outer (global_focus w)) ∷ []) (idle w []) → goes (opened s) ≡ goes s1 →
    stack_reported t s1 ≡ goes m → es ≡ top m.captures → n ≡ popped m → v ≡ Piece (fragment_of es) → fragment_steps w body s ≡ Goes v n
content-ends w body t s s1 m n v es e o i k q a =
    let same : v ≡ fragment_at m = a ∙ ap (λ z. Piece (fragment_of z)) k in
    fragment-opened w body t s s1 e o ∙ ap (λ g. Closes g) i ∙ ap (λ (x : Value). Goes x (popped m)) (sym same) ∙ ap (λ (x : State Task). Goes v x) (sym q)

-- so is an end before it
pub capture-exit : (w : World) (body : Body) (s m : State Task) (r : Result Value Halt) (y h : Halt) → r ≡ Err y → y ≡ h →
    IsStep (goes (opened s)) (Err h) m → IsStep (fragment_steps w body s) r m
capture-exit w body s m r y h a b i =
    let x : Trace Task = body_trace body w (calls_at w (global_focus w)) (global_focus w) [] in
    let f : Unit {0} → State Task → Step Task Value = λ u n. Goes (fragment_at n) (popped n) in
    let closes : (u : Unit {0}) → Grows (f u) = λ u. popped-grows (λ n k. Goes (fragment_at n) k) (λ n. goes-grows (fragment_at n)) in
    passes (λ (q : Unit {0}). q) (λ (v : Value). v) (fragment_steps w body s) (goes (opened s)) (λ u n. and_then (play x n) f) m r y h refl
    (λ u n. grows-then n (play x n) f (play-grows x n) closes) a b i

-- what the content of a binding does
pub selected-binding : (w : World) (b : Binding) (e : ScopedExpr) (s m : State Task) (r : Result Value Halt) → b.content ≡ Select e →
    IsStep (limited b.site (value_run w e (global_focus w) []) s) r m → IsStep (binding_steps w b s) r m
selected-binding w b e s m r q i =
    let steps : Content → Step Task Value =
    λ c. and_then (play (content_trace c b.site w (calls_at w (global_focus w)) (global_focus w) [] (λ v. [])) s) (λ u n. Goes (content_value w c) n) in
    subst (λ c. IsStep (steps c) r m) (sym q) (subst (λ (g : Step Task Value). IsStep g r m) (select-reported b.site (value_run w e (global_focus w) []) s) i)

pub fragment-binding : (w : World) (b : Binding) (body : Body) (s m : State Task) (r : Result Value Halt) → b.content ≡ Fragment body →
    IsStep (fragment_steps w body s) r m → IsStep (binding_steps w b s) r m
fragment-binding w b body s m r q i =
    let steps : Content → Step Task Value =
    λ c. and_then (play (content_trace c b.site w (calls_at w (global_focus w)) (global_focus w) [] (λ v. [])) s) (λ u n. Goes (content_value w c) n) in
    subst (λ c. IsStep (steps c) r m) (sym q)
    (subst (λ (g : Step Task Value). IsStep g r m) (content-reported (body_trace body w (calls_at w (global_focus w)) (global_focus w) []) s) i)
