-- No step changes what an evaluation is over.
use Rattle.std.proofs.Common.{◌≡◌, ◌+◌, ◌==◌, ◌||◌, ℕ, List, [], ◌∷◌, ◌++◌, length, map, Option, Some, None, Bool, true, false, cond, refl, subst, slice_get}
use Rattle.xs_sheet.specs.declared.body.Binding.{Binding}
use Rattle.xs_sheet.specs.declared.body.Body.{Body}
use Rattle.xs_sheet.specs.declared.body.Content.{Content}
use Rattle.xs_sheet.specs.declared.body.Content.TheVariants.{Empty, Select, Body as Fragment}
use Rattle.xs_sheet.specs.declared.body.Instr.{Instr}
use Rattle.xs_sheet.specs.declared.body.InstrKind.{InstrKind, Variable'}
use Rattle.xs_sheet.specs.declared.body.InstrKind.TheVariants.{ApplyTemplates, CallTemplate, ApplyImports, ForEach, ValueOf, CopyOf, Copy, Number, Choose, If}
use Rattle.xs_sheet.specs.declared.body.InstrKind.TheVariants.{Text, Element, Attribute, Comment, Pi, Message, Literal, Extension}
use Rattle.xs_sheet.specs.declared.body.LiteralStart.{LiteralStart}
use Rattle.xs_sheet.specs.declared.declarations.AttrSet.{AttrSet}
use Rattle.xs_sheet.specs.declared.declarations.Template.{Template}
use Rattle.xs_trace.specs.Cut.{Fault}
use Rattle.xs_trace.specs.Mark.{Hole}
use Rattle.xs_trace.specs.Run.{limited}
use Rattle.xs_trace.specs.State.{State, popped}
use Rattle.xs_trace.specs.Play.{Step, Goes, Ends, Reported, and_then, ticked, put, stops, play}
use Rattle.xs_trace.specs.Label.{Label}
use Rattle.xs_trace.specs.declared.event.Event.TheVariants.{Start, End}
use Rattle.xs_trace.specs.declared.fault.Fault.TheVariants as fault
use Rattle.xs_trace.specs.declared.item.Site.{Site}
use Rattle.xs_tree.specs.Kinds.{has_content, is_attribute_kind, is_element_kind, is_root_kind, is_text_kind}
use Rattle.xs_tree.specs.Record.{Record, at, children}
use Rattle.xs_tree.specs.declared.kinds.Kind.{Kind}
use Rattle.xs_making.specs.Copies.{shallow_copy}
use Rattle.xs_value.specs.declared.value.Value.{Value}
use Rattle.xs_value.specs.declared.value.Value.TheVariants.{Chars as String}
use Rattle.xs_attribute_sets.specs.Indexed.{declarations_in}
use Rattle.xs_body_spec.specs.declared.focus.Focus.{Focus}
use Rattle.xs_body_spec.specs.declared.made.Made.{Made}
use Rattle.xs_body_spec.specs.declared.made.Made.TheVariants as made
use Rattle.xs_body_spec.specs.World.{World, at_node, in_list, by_rule, value_run, looped_nodes, test_run, applied_nodes}
use Rattle.xs_body_spec.specs.Tasks.{Params, no_params, value_passed, Job, body_job, rules_job, Task, tasks_for, grain_over}
use Rattle.xs_body_spec.specs.Rules.{rule_for, import_for}
use Rattle.xs_body_spec.specs.Trace.{Entry, named, fitting, overridden, using, Called, by_number, by_rules}
use Rattle.xs_body.specs.declared.frames.Scope.{Scope}
use Rattle.xs_body.specs.steps.Frames.{Work, rest, fill, each_left, apply_left, bodies_left, end_element, sets_left, declared_left, attributes_left}
use Rattle.xs_body.specs.steps.Frames.{make, say, pass, take_value, params_left, Evaluation, last}
use Rattle.xs_body.specs.steps.Frames.{inner, over, after, bound, bindings_of, bodies_of, chosen, instrs_of, message_ended, pushed, filled_up, stays}
use Rattle.xs_body.specs.steps.Frames.{chars_steps, run_by, applied_begun, template_begun, built_in_begun, rule_begun, entry_begun}
use Rattle.xs_body.specs.steps.Frames.{entering, call_begun}
use Rattle.xs_body.specs.steps.Frames.{imports_begun, content_begun, passes_on, pass_begun, params_first, fragment_at, param_begun}
use Rattle.xs_body.specs.steps.Frames.{fallbacks_begun, next_body, looping, loop_begun, number_steps, value_steps, begun}
use Rattle.xs_body.specs.steps.Frames.{advanced, content_in, copied_begun, copy_of_steps, declaration_begun, declared_begun, element_put, in_template}
use Rattle.xs_body.specs.steps.Frames.{inside_begun, literal_inside, lone_steps, made_begun, made_of, rest_works, sets_begun, sets_left_works, sets_works}
use Rattle.xs_body.specs.steps.Frames.{entering_fitting, outer, params_entered, rest_begun, rule_entered, template_entered}
use Rattle.xs_body.specs.steps.Making.{attributes_steps, literal_steps, made_ended, made_steps, name_steps, target_steps}
use Rattle.xs_making.specs.Putting.{events_steps}

abbrev Keeps : World → Step Task Evaluation → Type 0
Keeps w (Goes u m) = u.world ≡ w
Keeps w (Ends e reported left h) = Unit {0}

then-keeps : {A : Type 0} (w : World) (g : Step Task A) (f : A → State Task → Step Task Evaluation) → ((x : A) (m : State Task) → Keeps w (f x m)) →
    Keeps w (and_then g f)
then-keeps w (Goes x m) f h = h x m
then-keeps w (Ends e reported left k) f h = tt

if-keeps : (w : World) (b : Bool) (x y : Step Task Evaluation) → Keeps w x → Keeps w y → Keeps w (cond b x y)
if-keeps w true x y p q = p
if-keeps w false x y p q = q

-- an evaluation to which something is done that gives another
brings-keeps : {A : Type 0} (t : Evaluation) (g : Step Task A) (f : A → Evaluation) → ((x : A) → (f x).world ≡ t.world) →
    Keeps t.world (and_then g (λ x m. Goes (f x) m))
brings-keeps t g f h = then-keeps t.world g (λ x m. Goes (f x) m) (λ x m. h x)

stays-keeps : (g : Reported Task) (t : Evaluation) → Keeps t.world (stays g t)
stays-keeps g t = brings-keeps t g (λ u. t) (λ u. refl)

run_by-keeps : (g : Option ℕ) (job : Job) (p : Site) (f : Focus) (ns : List ℕ) (x : Work) (t : Evaluation) (s : State Task) →
    Keeps t.world (run_by g job p f ns x t s)
run_by-keeps None job p f ns x t s = refl
run_by-keeps (Some grain) job p f ns x t s = stays-keeps (play (map Hole (tasks_for grain job p f ns)) s) t

applied-keeps : (mode : ℕ) (ps : Params) (p : Site) (f : Focus) (ns : List ℕ) (t : Evaluation) (s : State Task) →
    Keeps t.world (applied_begun mode ps p f ns t s)
applied-keeps mode ps p f ns t s = run_by-keeps (grain_over t.world (in_list (length ns) f) (length ns)) (rules_job mode ps) p (in_list (length ns) f) ns
    (apply_left mode ps p (in_list (length ns) f) 1 ns) t s

template-keeps : (o : Option Template) (ps : Params) (f : Focus) (t : Evaluation) → (template_begun o ps f t).world ≡ t.world
template-keeps None ps f t = refl
template-keeps (Some template) ps f t = refl

built_in-keeps : (mode : ℕ) (p : Site) (f : Focus) (r : Record) (t : Evaluation) (s : State Task) → Keeps t.world (built_in_begun mode p f r t s)
built_in-keeps mode p f r t s =
    let text : Step Task Evaluation = cond (is_text_kind r.kind || is_attribute_kind r.kind) (stays (chars_steps p r.text s) t) (Goes t s) in
    if-keeps t.world (has_content r.kind) (applied_begun mode no_params p f (children t.world.tree f.node) t s) text
    (applied-keeps mode no_params p f (children t.world.tree f.node) t s)
    (if-keeps t.world (is_text_kind r.kind || is_attribute_kind r.kind) (stays (chars_steps p r.text s) t) (Goes t s) (stays-keeps (chars_steps p r.text s) t)
    refl)

rule-keeps : (o : Option ℕ) (mode : ℕ) (ps : Params) (p : Site) (f : Focus) (t : Evaluation) (s : State Task) → Keeps t.world (rule_begun o mode ps p f t s)
rule-keeps None mode ps p f t s = built_in-keeps mode p f (at t.world.tree f.node) t s
rule-keeps (Some rule) mode ps p f t s = template-keeps (slice_get t.world.sheet.templates rule) ps (by_rule rule mode f) t

entry-keeps : (e : Entry) (p : Site) (f : Focus) (t : Evaluation) (s : State Task) → Keeps t.world (entry_begun e p f t s)
entry-keeps (named i ps) p f t s = template-keeps (slice_get t.world.sheet.templates i) ps f t
entry-keeps (fitting mode ps) p f t s = rule-keeps (rule_for t.world mode f.node) mode ps p f t s
entry-keeps (overridden current) p f t s = rule-keeps (import_for t.world current f) f.mode no_params p f t s
entry-keeps (using names) p f t s = refl

entering-keeps : (e : Entry) (p : Site) (f : Focus) (t : Evaluation) (s : State Task) → Keeps t.world (entering e p f t s)
entering-keeps e p f t s =
    if-keeps t.world (f.depth == 0) (stops (Fault fault.TooDeep p) s) (entry_begun e p (in_template t.world f) t s) tt
    (entry-keeps e p (in_template t.world f) t s)

call-keeps : (callee : Called) (ps : Params) (p : Site) (f : Focus) (t : Evaluation) (s : State Task) → Keeps t.world (call_begun callee ps p f t s)
call-keeps (by_number i) ps p f t s = then-keeps t.world (ticked p s) (λ u m. entering (named i ps) p f t m) (λ u m. entering-keeps (named i ps) p f t m)
call-keeps (by_rules mode ns) ps p f t s = applied-keeps mode ps p f ns t s

imports-keeps : (p : Site) (f : Focus) (o : Option ℕ) (t : Evaluation) (s : State Task) → Keeps t.world (imports_begun p f o t s)
imports-keeps p f None t s = tt
imports-keeps p f (Some rule) t s =
    then-keeps t.world (ticked p s) (λ u m. entering (overridden rule) p f t m) (λ u m. entering-keeps (overridden rule) p f t m)

content-keeps : (content : Content) (p : Site) (c : Scope) (t : Evaluation) (s : State Task) → Keeps t.world (content_begun content p c t s)
content-keeps Empty p c t s = refl
content-keeps (Select e) p c t s =
    brings-keeps t (limited p (value_run t.world e c.focus (last c.seen t.slots)) s) (λ v. filled_up (v ∷ []) t) (λ v. refl)
content-keeps (Fragment body) p c t s = refl

passes-keep : (left all : List Binding) (us : List Value) (callee : Called) (p : Site) (c : Scope) (t : Evaluation) (s : State Task) →
    Keeps t.world (passes_on left all us callee p c t s)
passes-keep [] all us callee p c t s = call-keeps callee (record { bindings = all; values = us }) p c.focus t s
passes-keep (b ∷ left) all us callee p c t s = refl

pass-keeps : (content : Content) (left all : List Binding) (us : List Value) (callee : Called) (p : Site) (c : Scope) (t : Evaluation) (s : State Task) →
    Keeps t.world (pass_begun content left all us callee p c t s)
pass-keeps Empty left all us callee p c t s = passes-keep left all (us ++ String [] ∷ []) callee p c t s
pass-keeps (Select e) left all us callee p c t s = then-keeps t.world (limited p (value_run t.world e c.focus (last c.seen t.slots)) s)
    (λ v m. passes_on left all (us ++ v ∷ []) callee p c t m) (λ v m. passes-keep left all (us ++ v ∷ []) callee p c t m)
pass-keeps (Fragment body) left all us callee p c t s = refl

param-keeps : (o : Option Value) (content : Content) (p : Site) (c : Scope) (t : Evaluation) (s : State Task) → Keeps t.world (param_begun o content p c t s)
param-keeps None content p c t s = content-keeps content p c t s
param-keeps (Some v) content p c t s = refl

fallbacks-keep : (bs : List Body) (p : Site) (c : Scope) (t : Evaluation) (s : State Task) → Keeps t.world (fallbacks_begun bs p c t s)
fallbacks-keep [] p c t s = tt
fallbacks-keep (b ∷ bs) p c t s = refl

bodies-keep : (bs : List Body) (c : Scope) (t : Evaluation) → (next_body bs c t).world ≡ t.world
bodies-keep [] c t = refl
bodies-keep (b ∷ bs) c t = refl

loop-keeps : (body : Body) (p : Site) (c : Scope) (ns : List ℕ) (t : Evaluation) (s : State Task) → Keeps t.world (loop_begun body p c ns t s)
loop-keeps body p c ns t s = run_by-keeps (grain_over t.world (looping c.focus ns) (length ns)) (body_job body (last c.seen t.slots)) p (looping c.focus ns) ns
    (each_left body p (over (looping c.focus ns) c) 1 ns) t s

copied-keeps : (kind : Kind) (sets : List Label) (body : Body) (c : Scope) (t : Evaluation) → (copied_begun kind sets body c t).world ≡ t.world
copied-keeps kind sets body c t = by_element (is_element_kind kind)
  where
    by_root : (q : Bool) → (cond q (pushed (rest (instrs_of body) (inner c) ∷ []) t) t).world ≡ t.world
    by_root true = refl
    by_root false = refl

    by_element : (q : Bool) →
        (cond q (inside_begun sets body c t) (cond (is_root_kind kind) (pushed (rest (instrs_of body) (inner c) ∷ []) t) t)).world ≡ t.world
    by_element true = refl
    by_element false = by_root (is_root_kind kind)

declaration-keeps : (here after : Option AttrSet) (name : Label) (i : ℕ) (f : Focus) (t : Evaluation) →
    (declaration_begun here after name i f t).world ≡ t.world
declaration-keeps None after name i f t = refl
declaration-keeps (Some s) after name i f t = refl

declared-keep : (name : Label) (i : ℕ) (f : Focus) (t : Evaluation) → (declared_begun name i f t).world ≡ t.world
declared-keep name i f t =
    let ds : List AttrSet = declarations_in t.world.index name in declaration-keeps (slice_get ds i) (slice_get ds (i + 1)) name i f t

sets-keep : (names : List Label) (f : Focus) (t : Evaluation) → (sets_begun names f t).world ≡ t.world
sets-keep [] f t = refl
sets-keep (name ∷ names) f t = declared-keep name 0 f (pushed (sets_left_works names f) t)

made_of-keeps : (text : Option (List ℕ)) (m : Made) (body : Body) (p : Site) (c : Scope) (t : Evaluation) (s : State Task) →
    Keeps t.world (made_of text m body p c t s)
made_of-keeps None m body p c t s = refl
made_of-keeps (Some text) m body p c t s = stays-keeps (made_steps m text p s) t

made-keeps : (m : Made) (body : Body) (p : Site) (c : Scope) (t : Evaluation) (s : State Task) → Keeps t.world (made_begun m body p c t s)
made-keeps m body p c t s =
    then-keeps t.world (lone_steps (instrs_of body) c t s) (λ text n. made_of text m body p c t n) (λ text n. made_of-keeps text m body p c t n)

literal-keeps : (start : LiteralStart) (body : Body) (p : Site) (c : Scope) (t : Evaluation) (s : State Task) →
    Keeps t.world (literal_inside start body p c t s)
literal-keeps start body p c t s =
    let g : Reported Task = attributes_steps t.world p c.focus (last c.seen t.slots) start.attributes s in
    let v : Evaluation = content_in body c t in
    if-keeps t.world (length start.sets == 0) (stays g v)
    (Goes (pushed (sets_works start.sets c.focus) (pushed (attributes_left start.attributes p c ∷ []) v)) s) (stays-keeps g v) refl

begun-keeps : (kind : InstrKind) (p : Site) (c : Scope) (t : Evaluation) (s : State Task) → Keeps t.world (begun kind p c t s)
begun-keeps (ApplyTemplates nodes passed) p c t s =
    then-keeps t.world (limited p (applied_nodes t.world nodes.select nodes.sorts c.focus (last c.seen t.slots)) s)
    (λ ns m. passes_on (bindings_of passed) (bindings_of passed) [] (by_rules nodes.mode ns) p c t m)
    (λ ns m. passes-keep (bindings_of passed) (bindings_of passed) [] (by_rules nodes.mode ns) p c t m)
begun-keeps (CallTemplate i passed) p c t s = passes-keep (bindings_of passed) (bindings_of passed) [] (by_number i) p c t s
begun-keeps ApplyImports p c t s = imports-keeps p c.focus c.focus.rule t s
begun-keeps (ForEach select sorts body) p c t s = then-keeps t.world (limited p (looped_nodes t.world select sorts c.focus (last c.seen t.slots)) s)
    (λ ns m. loop_begun body p c ns t m) (λ ns m. loop-keeps body p c ns t m)
begun-keeps (ValueOf select) p c t s = stays-keeps (value_steps select p c t s) t
begun-keeps (CopyOf select) p c t s = stays-keeps (copy_of_steps select p c t s) t
begun-keeps (Copy sets body) p c t s =
    let kind : Kind = (at t.world.tree c.focus.node).kind in
    brings-keeps t (events_steps p (shallow_copy t.world.tree c.focus.node) s) (λ u. copied_begun kind sets body c t) (λ u. copied-keeps kind sets body c t)
begun-keeps (Number decl) p c t s = stays-keeps (number_steps decl p c t s) t
begun-keeps (Choose choice) p c t s = brings-keeps t (limited p (chosen choice t.world c.focus (last c.seen t.slots)) s)
    (λ body. pushed (rest (instrs_of body) (inner c) ∷ []) t) (λ body. refl)
begun-keeps (If test body) p c t s = brings-keeps t (limited p (test_run t.world test c.focus (last c.seen t.slots)) s)
    (λ b. pushed (cond b (rest (instrs_of body) (inner c) ∷ []) []) t) (λ b. refl)
begun-keeps (Text text) p c t s = stays-keeps (chars_steps p text s) t
begun-keeps (Element name sets body) p c t s =
    then-keeps t.world (name_steps t.world p c.focus (last c.seen t.slots) false name s) (λ label m. element_put label sets body c t m)
    (λ label m. brings-keeps t (put (Start label) m) (λ u. inside_begun sets body c t) (λ u. refl))
begun-keeps (Attribute name body) p c t s =
    then-keeps t.world (name_steps t.world p c.focus (last c.seen t.slots) true name s) (λ label m. made_begun (made.Attribute label) body p c t m)
    (λ label m. made-keeps (made.Attribute label) body p c t m)
begun-keeps (Comment body) p c t s = made-keeps made.Comment body p c t s
begun-keeps (Pi name body) p c t s =
    then-keeps t.world (target_steps t.world p c.focus (last c.seen t.slots) name s) (λ target m. made_begun (made.Instruction target) body p c t m)
    (λ target m. made-keeps (made.Instruction target) body p c t m)
begun-keeps (Message terminate body) p c t s = refl
begun-keeps (Variable' site name content) p c t s = content-keeps content p c t s
begun-keeps (Literal start body) p c t s =
    then-keeps t.world (literal_steps t.world.sheet.aliases p start s) (λ u m. literal_inside start body p c t m)
    (λ u m. literal-keeps start body p c t m)
begun-keeps (Extension fallbacks) p c t s = fallbacks-keep (bodies_of fallbacks) p c t s

rest-keeps : (is : List Instr) (c : Scope) (t : Evaluation) (s : State Task) → Keeps t.world (rest_begun is c t s)
rest-keeps [] c t s = refl
rest-keeps (i ∷ is) c t s =
    let u : Evaluation = pushed (rest_works is (after i.kind c)) t in
    then-keeps t.world (ticked i.site s) (λ q m. begun i.kind i.site c u m) (λ q m. begun-keeps i.kind i.site c u m)

params-keep : (bs : List Binding) (ps : Params) (body : Body) (c : Scope) (t : Evaluation) (s : State Task) → Keeps t.world (params_entered bs ps body c t s)
params-keep [] ps body c t s = rest-keeps (instrs_of body) c t s
params-keep (b ∷ bs) ps body c t s = refl

entered-keeps : (o : Option Template) (ps : Params) (f : Focus) (t : Evaluation) (s : State Task) → Keeps t.world (template_entered o ps f t s)
entered-keeps None ps f t s = refl
entered-keeps (Some template) ps f t s = params-keep template.params ps template.body (outer f) t s

rule_entered-keeps : (o : Option ℕ) (mode : ℕ) (ps : Params) (p : Site) (f : Focus) (t : Evaluation) (s : State Task) →
    Keeps t.world (rule_entered o mode ps p f t s)
rule_entered-keeps None mode ps p f t s = built_in-keeps mode p f (at t.world.tree f.node) t s
rule_entered-keeps (Some rule) mode ps p f t s = entered-keeps (slice_get t.world.sheet.templates rule) ps (by_rule rule mode f) t s

fitting-keeps : (mode : ℕ) (ps : Params) (p : Site) (f : Focus) (t : Evaluation) (s : State Task) → Keeps t.world (entering_fitting mode ps p f t s)
fitting-keeps mode ps p f t s =
    let g : Focus = in_template t.world f in
    let o : Option ℕ = rule_for t.world mode f.node in
    if-keeps t.world (f.depth == 0) (stops (Fault fault.TooDeep p) s) (rule_entered o mode ps p g t s) tt (rule_entered-keeps o mode ps p g t s)

advanced-keeps : (b : Work) (t : Evaluation) (s : State Task) → Keeps t.world (advanced b t s)
advanced-keeps (rest is c) t s = rest-keeps is c t s
advanced-keeps fill t s = refl
advanced-keeps (each_left body p c i []) t s = refl
advanced-keeps (each_left body p c i (n ∷ ns)) t s =
    let u : Evaluation = pushed (each_left body p c (i + 1) ns ∷ []) t in
    let here : Scope = over (at_node n i c.focus) c in
    then-keeps t.world (ticked p s) (λ q m. rest_begun (instrs_of body) here u m) (λ q m. rest-keeps (instrs_of body) here u m)
advanced-keeps (apply_left mode ps p f i []) t s = refl
advanced-keeps (apply_left mode ps p f i (n ∷ ns)) t s =
    let u : Evaluation = pushed (apply_left mode ps p f (i + 1) ns ∷ []) t in
    then-keeps t.world (ticked p s) (λ q m. entering_fitting mode ps p (at_node n i f) u m) (λ q m. fitting-keeps mode ps p (at_node n i f) u m)
advanced-keeps (bodies_left bodies c) t s = bodies-keep bodies c t
advanced-keeps end_element t s = stays-keeps (put End s) t
advanced-keeps (sets_left names f) t s = sets-keep names f t
advanced-keeps (declared_left name i f) t s = declared-keep name i f t
advanced-keeps (attributes_left xs p c) t s = stays-keeps (attributes_steps t.world p c.focus (last c.seen t.slots) xs s) t
advanced-keeps (make m p) t s = stays-keeps (made_ended m p s) t
advanced-keeps (say p terminate) t s = stays-keeps (message_ended p terminate s) t
advanced-keeps (pass [] all us callee p c) t s = call-keeps callee (record { bindings = all; values = us }) p c.focus t s
advanced-keeps (pass (b ∷ left) all us callee p c) t s = pass-keeps b.content left all us callee p c t s
advanced-keeps (take_value left all us callee p c) t s = passes-keep left all (us ++ fragment_at s ∷ []) callee p c t (popped s)
advanced-keeps (params_left [] ps body c) t s = refl
advanced-keeps (params_left (b ∷ bs) ps body c) t s = then-keeps t.world (ticked b.site s) _
    (λ q m. param-keeps (value_passed b.name ps) b.content b.site c (pushed (params_first bs ps body (bound c) ∷ []) t) m)

pub same-world : (b : Work) (t u : Evaluation) (s m : State Task) → advanced b t s ≡ Goes u m → u.world ≡ t.world
same-world b t u s m e = subst (Keeps t.world) e (advanced-keeps b t s)
