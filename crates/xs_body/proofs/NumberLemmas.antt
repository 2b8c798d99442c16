-- The text of a number, part by part, as steps.
use Rattle.std.proofs.Common.{◌≡◌, ℕ, List, Option, Some, None, Result, Err, sym, ap, ◌∙◌}
use Rattle.xs_pattern_spec.specs.Counted.{number_list}
use Rattle.xs_eval_spec.proofs.StepLemmas.{exits, gives, goes_on}
use Rattle.xs_num.specs.declared.number.Number.{Number}
use Rattle.xs_sheet.specs.declared.body.NumberDecl.{NumberDecl}
use Rattle.xs_sheet.specs.declared.scoped.ScopedExpr.{ScopedExpr}
use Rattle.xs_sheet.specs.declared.scoped.ValueTemplate.{ValueTemplate}
use Rattle.xs_trace.specs.Play.{Goes, Reported, and_then, IsStep, IsStepBy}
use Rattle.xs_trace.specs.Run.{Run, give, limited, ◌>>=◌}
use Rattle.xs_trace.specs.State.{State}
use Rattle.xs_trace.specs.declared.item.Site.{Site}
use Rattle.xs_trace.specs.declared.recorder.Halt.{Halt}
use Rattle.xs_trace.proofs.GrowthLemmas.{grows-then, passes}
use Rattle.xs_trace.proofs.PlayLemmas.{then-then}
use Rattle.xs_trace.proofs.RunLemmas.{limited-bind, limited-grows}
use Rattle.xs_value.specs.declared.value.Value.{Value}
use Rattle.xs_body_spec.specs.declared.focus.Focus.{Focus}
use Rattle.xs_body_spec.specs.Numbers.{Numbered, given_number, counted, numbered_by, optional_run}
use Rattle.xs_body_spec.specs.Tasks.{Task}
use Rattle.xs_body_spec.specs.World.{World, numeric_run, template_run}
use Rattle.xs_body.specs.steps.Frames.{chars_steps}
use Rattle.xs_body.proofs.GrowthLemmas.{chars-grow}

-- the number that `value` gives
pub given-reported : {H : Type 0} → (w : World) (d : NumberDecl) (f : Focus) (vs : List Value) (p : Site) (o : Option ScopedExpr) (e : ScopedExpr)
    (n : Number) (s m : State H) → o ≡ Some e → limited p (numeric_run w e f vs) s ≡ Goes n m →
    limited p (numbered_by w o d f vs) s ≡ Goes (given_number n) m
given-reported w d f vs p o e n s m is reported =
    ap (λ q. limited p (numbered_by w q d f vs) s) is
    ∙ goes_on p (numeric_run w e f vs) (λ k. give (given_number k)) n s m reported
    ∙ gives p (given_number n) m

pub given-ends : {H C D : Type 0} → (v : C → Number) (u : D → Numbered) (w : World) (d : NumberDecl) (f : Focus) (vs : List Value) (p : Site)
    (o : Option ScopedExpr) (e : ScopedExpr) (s m : State H) (result : Result D Halt) (y h : Halt) → o ≡ Some e → result ≡ Err y → y ≡ h →
    IsStepBy v (limited p (numeric_run w e f vs) s) (Err h) m → IsStepBy u (limited p (numbered_by w o d f vs) s) result m
given-ends v u w d f vs p o e s m result y h is a b q =
    exits v u p (numeric_run w e f vs) (λ k. give (given_number k)) (limited p (numbered_by w o d f vs) s) s m result y h
    (ap (λ k. limited p (numbered_by w k d f vs) s) is) a b q

-- those that are counted
pub counted-reported : {H : Type 0} → (w : World) (d : NumberDecl) (f : Focus) (vs : List Value) (p : Site) (o : Option ScopedExpr) (ns : List ℕ)
    (s : State H) →
    o ≡ None → ns ≡ number_list w.keys w.tree d f.node → limited p (numbered_by w o d f vs) s ≡ Goes (counted ns) s
counted-reported w d f vs p o ns s is e =
    ap (λ q. limited p (numbered_by w q d f vs) s) is
    ∙ gives p (counted (number_list w.keys w.tree d f.node)) s
    ∙ ap (λ l. Goes (counted l) s) (sym e)

-- the text of a template that is there
pub some-reported : {H : Type 0} → (w : World) (f : Focus) (vs : List Value) (p : Site) (o : Option ValueTemplate) (t : ValueTemplate) (text : List ℕ)
    (s m : State H) → o ≡ Some t → limited p (template_run w t f vs) s ≡ Goes text m → limited p (optional_run w o f vs) s ≡ Goes (Some text) m
some-reported w f vs p o t text s m is reported =
    ap (λ q. limited p (optional_run w q f vs) s) is
    ∙ goes_on p (template_run w t f vs) (λ x. give (Some x)) text s m reported
    ∙ gives p (Some text) m

pub some-ends : {H C D : Type 0} → (v : C → List ℕ) (u : D → Option (List ℕ)) (w : World) (f : Focus) (vs : List Value) (p : Site)
    (o : Option ValueTemplate) (t : ValueTemplate) (s m : State H) (result : Result D Halt) (y h : Halt) → o ≡ Some t → result ≡ Err y → y ≡ h →
    IsStepBy v (limited p (template_run w t f vs) s) (Err h) m → IsStepBy u (limited p (optional_run w o f vs) s) result m
some-ends v u w f vs p o t s m result y h is a b q =
    exits v u p (template_run w t f vs) (λ x. give (Some x)) (limited p (optional_run w o f vs) s) s m result y h
    (ap (λ k. limited p (optional_run w k f vs) s) is) a b q

-- one that is not there
pub none-reported : {H : Type 0} → (w : World) (f : Focus) (vs : List Value) (p : Site) (o : Option ValueTemplate) (s : State H) →
    o ≡ None → limited p (optional_run w o f vs) s ≡ Goes None s
none-reported w f vs p o s is = ap (λ q. limited p (optional_run w q f vs) s) is ∙ gives p None s

-- a part ends before its text is put
pub put-ends : {A C : Type 0} → (v : C → A) (p : Site) (r : Run A) (f : A → Run (List ℕ)) (k : Reported Task) (s m : State Task)
    (result : Result (Unit {0}) Halt) (y h : Halt) → k ≡ and_then (limited p (r >>= f) s) (λ text n. chars_steps p text n) → result ≡ Err y → y ≡ h →
    IsStepBy v (limited p r s) (Err h) m → IsStep k result m
put-ends v p r f k s m result y h e a b q =
    passes v (λ u. u) k (limited p r s) (λ x n. and_then (limited p (f x) n) (λ text i. chars_steps p text i)) m result y h
    (e ∙ ap (λ j. and_then j (λ text n. chars_steps p text n)) (limited-bind p r f s)
    ∙ then-then (limited p r s) (λ x n. limited p (f x) n) (λ text n. chars_steps p text n))
    (λ x n. grows-then n (limited p (f x) n) (λ text i. chars_steps p text i) (limited-grows p (f x) n) (λ text. chars-grow p text)) a b q
