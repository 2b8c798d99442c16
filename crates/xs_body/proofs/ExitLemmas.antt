-- Where a part ends a run, the step that begins with it ends it.
use Rattle.std.proofs.Common.{◌≡◌, ◌==◌, ◌||◌, ℕ, List, [], ◌∷◌, length, Option, Some, Bool, true, false, cond, Result, Ok, Err, refl, sym, subst, ap, ◌∙◌}
use Rattle.std.proofs.Common.{arith}
use Rattle.std.proofs.lemmas.Bool.{true≢false}
use Rattle.std.proofs.lemmas.Bool.Decides.{nat_tests}
use Rattle.xs_sheet.specs.declared.body.Binding.{Binding}
use Rattle.xs_sheet.specs.declared.body.Body.{Body}
use Rattle.xs_sheet.specs.declared.body.LiteralStart.{LiteralStart}
use Rattle.xs_trace.specs.State.{State}
use Rattle.xs_trace.specs.Play.{Step, Goes, Reported, and_then, IsStep, IsStepBy}
use Rattle.xs_trace.specs.declared.item.Site.{Site}
use Rattle.xs_trace.specs.declared.recorder.Halt.{Halt}
use Rattle.xs_trace.proofs.GrowthLemmas.{Grows, passes, then-exit, goes-grows}
use Rattle.xs_tree.specs.Kinds.{has_content, is_attribute_kind, is_text_kind}
use Rattle.xs_tree.specs.Record.{Record, children}
use Rattle.xs_body_spec.specs.declared.focus.Focus.{Focus}
use Rattle.xs_body_spec.specs.declared.made.Made.{Made}
use Rattle.xs_body_spec.specs.Tasks.{Params, Task, no_params}
use Rattle.xs_body.specs.declared.frames.Scope.{Scope}
use Rattle.xs_body.specs.steps.Frames.{Evaluation, applied_begun, attributes_left, built_in_begun, chars_steps, content_in, last, literal_inside, made_of}
use Rattle.xs_body.specs.steps.Frames.{instrs_of, outer, params_entered, params_first, pushed, rest_begun, sets_works, stays}
use Rattle.xs_body.specs.steps.Making.{attributes_steps, made_steps}

-- what follows is a step of the evaluation
pub stack-exit : {A C : Type 0} (view : C → A) (g : Step Task A) (f : A → State Task → Step Task Evaluation) (v : Evaluation) (m : State Task)
    (r : Result (Unit {0}) Halt) (y h : Halt) → ((x : A) → Grows (f x)) → r ≡ Err y → y ≡ h → IsStepBy view g (Err h) m →
    IsStepBy {A = Evaluation} {B = Unit {0}} (λ u. v) (and_then g f) r m
stack-exit view g f v m r y h grow a b i = passes view (λ u. v) (and_then g f) g f m r y h refl grow a b i

-- what is reported, where the stack stays
pub stays-reported : (g : Reported Task) (t v : Evaluation) (m : State Task) (r : Result (Unit {0}) Halt) → v ≡ t → IsStep g r m →
    IsStepBy {A = Evaluation} {B = Unit {0}} (λ u. v) (stays g t) r m
stays-reported g t v m (Ok u) e i = ap (λ j. and_then j (λ q n. Goes t n)) i ∙ ap (λ (x : Evaluation). Goes x m) (sym e)
stays-reported g t v m (Err h) e i = then-exit (λ (x : Unit {0}). x) (λ (x : Unit {0}). v) g (λ q n. Goes t n) h m (λ q. goes-grows t) i

-- the built-in rule of a text or an attribute
pub text-reported : (mode : ℕ) (p : Site) (f : Focus) (r : Record) (t v : Evaluation) (s m : State Task) (o : Result (Unit {0}) Halt) → has_content r.kind
    ≡ false →
    (is_text_kind r.kind || is_attribute_kind r.kind) ≡ true → v ≡ t → IsStep (chars_steps p r.text s) o m →
    IsStepBy {A = Evaluation} {B = Unit {0}} (λ u. v) (built_in_begun mode p f r t s) o m
text-reported mode p f r t v s m o a b e i =
    let text : Step Task Evaluation = stays (chars_steps p r.text s) t in
    let k : built_in_begun mode p f r t s ≡ text =
    ap (λ (q : Bool). cond q (applied_begun mode no_params p f (children t.world.tree f.node) t s)
    (cond (is_text_kind r.kind || is_attribute_kind r.kind) text (Goes t s))) a
    ∙ ap (λ (q : Bool). cond q text (Goes t s)) b in
    subst (λ (h : Step Task Evaluation). IsStepBy {A = Evaluation} {B = Unit {0}} (λ u. v) h o m) (sym k) (stays-reported (chars_steps p r.text s) t v m o e i)

-- what is made of the text of content
pub made-text-reported : (g : Step Task (Option (List ℕ))) (found : Option (List ℕ)) (text : List ℕ) (m : Made) (body : Body) (p : Site) (c : Scope)
    (t v : Evaluation) (n k : State Task) (r : Result (Unit {0}) Halt) → g ≡ Goes found n → found ≡ Some text → v ≡ t → IsStep (made_steps m text p n) r k →
    IsStepBy {A = Evaluation} {B = Unit {0}} (λ u. v) (and_then g (λ x q. made_of x m body p c t q)) r k
made-text-reported g found text m body p c t v n k r e is same reported =
    subst (λ (h : Step Task (Option (List ℕ))). IsStepBy {A = Evaluation} {B = Unit {0}} (λ u. v) (and_then h (λ x q. made_of x m body p c t q)) r k)
    (sym e)
    (subst (λ (o : Option (List ℕ)). IsStepBy {A = Evaluation} {B = Unit {0}} (λ u. v) (made_of o m body p c t n) r k) (sym is)
    (stays-reported (made_steps m text p n) t v k r same reported))

-- the attributes of a literal element without sets
pub inside-reported : (start : LiteralStart) (body : Body) (p : Site) (c : Scope) (t mid v : Evaluation) (s m : State Task) (r : Result (Unit {0}) Halt) →
    (length start.sets == 0) ≡ true → mid ≡ content_in body c t → v ≡ mid →
    IsStep (attributes_steps mid.world p c.focus (last c.seen mid.slots) start.attributes s) r m →
    IsStepBy {A = Evaluation} {B = Unit {0}} (λ u. v) (literal_inside start body p c t s) r m
inside-reported start body p c t mid v s m r none is same reported =
    let g : Reported Task = attributes_steps t.world p c.focus (last c.seen t.slots) start.attributes s in
    let w : Evaluation = content_in body c t in
    let own : IsStep g r m = subst (λ (e : Evaluation). IsStep (attributes_steps e.world p c.focus (last c.seen e.slots) start.attributes s) r m) is reported in
    subst (λ (b : Bool). IsStepBy {A = Evaluation} {B = Unit {0}} (λ u. v)
    (cond b (stays g w) (Goes (pushed (sets_works start.sets c.focus) (pushed (attributes_left start.attributes p c ∷ []) w)) s)) r m) (sym none)
    (stays-reported g w v m r (same ∙ is) own)

-- a template that begins at once: one without parameters, and one with some
none-left : (bs : List Binding) → (length bs == 0) ≡ true → bs ≡ []
none-left [] e = refl
none-left (b ∷ bs) e = let q : (length (b ∷ bs) == 0) ≡ false = grind (arith, nat_tests) in absurd (true≢false (sym e ∙ q))

pub body-entered : (bs : List Binding) (ps : Params) (body : Body) (f : Focus) (c : Scope) (t v : Evaluation) (s m : State Task) (r : Result (Unit {0}) Halt) →
    (length bs == 0) ≡ true → c ≡ outer f → IsStepBy {A = Evaluation} {B = Unit {0}} (λ u. v) (rest_begun (instrs_of body) c t s) r m →
    IsStepBy {A = Evaluation} {B = Unit {0}} (λ u. v) (params_entered bs ps body (outer f) t s) r m
body-entered bs ps body f c t v s m r none is reported =
    subst (λ (xs : List Binding). IsStepBy {A = Evaluation} {B = Unit {0}} (λ u. v) (params_entered xs ps body (outer f) t s) r m)
    (sym (none-left bs none))
    (subst (λ (x : Scope). IsStepBy {A = Evaluation} {B = Unit {0}} (λ u. v) (rest_begun (instrs_of body) x t s) r m) is reported)

some-left : (bs : List Binding) (ps : Params) (body : Body) (c : Scope) (t : Evaluation) (s : State Task) → (length bs == 0) ≡ false →
    params_entered bs ps body c t s ≡ Goes (pushed (params_first bs ps body c ∷ []) t) s
some-left [] ps body c t s e = absurd (true≢false e)
some-left (b ∷ bs) ps body c t s e = refl

pub params-entered : (bs : List Binding) (ps : Params) (body : Body) (f : Focus) (t v : Evaluation) (s : State Task) → (length bs == 0) ≡ false →
    v ≡ pushed (params_first bs ps body (outer f) ∷ []) t → params_entered bs ps body (outer f) t s ≡ Goes v s
params-entered bs ps body f t v s some same = some-left bs ps body (outer f) t s some ∙ ap (λ (x : Evaluation). Goes x s) (sym same)
