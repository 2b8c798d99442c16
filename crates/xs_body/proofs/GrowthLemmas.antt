-- What was reported stays at the beginning of what is reported, in each step.
use Rattle.std.proofs.Common.{ℕ, ◌/◌, ◌==◌, ◌||◌, drop, length, List, [], ◌∷◌, ◌++◌, map, slice_get, Option, Some, None, Bool, true, false, cond, refl}
use Rattle.xs_sheet.specs.declared.body.Body.{Body}
use Rattle.xs_sheet.specs.declared.body.Binding.{Binding}
use Rattle.xs_sheet.specs.declared.body.Content.{Content}
use Rattle.xs_sheet.specs.declared.body.Content.TheVariants.{Empty, Select, Body as Fragment}
use Rattle.xs_sheet.specs.declared.body.Instr.{Instr}
use Rattle.xs_sheet.specs.declared.body.InstrKind.{InstrKind, Variable'}
use Rattle.xs_sheet.specs.declared.body.InstrKind.TheVariants.{ApplyTemplates, CallTemplate, ApplyImports, ForEach, ValueOf, CopyOf, Copy, Number, Choose, If}
use Rattle.xs_sheet.specs.declared.body.InstrKind.TheVariants.{Text, Element, Attribute, Comment, Pi, Message, Literal, Extension}
use Rattle.xs_sheet.specs.declared.body.LiteralStart.{LiteralStart}
use Rattle.xs_sheet.specs.declared.declarations.Template.{Template}
use Rattle.xs_sheet.specs.declared.scoped.ScopedExpr.{ScopedExpr}
use Rattle.xs_trace.specs.Cut.{Fault}
use Rattle.xs_trace.specs.Label.{Label}
use Rattle.xs_trace.specs.Mark.{Hole, Trace}
use Rattle.xs_trace.specs.Run.{limited}
use Rattle.xs_trace.specs.State.{State, opened, popped, top}
use Rattle.xs_trace.specs.Play.{Step, Goes, Reported, and_then, goes, ticked, ticked_by, put, put_at, said_at, stops, play}
use Rattle.xs_trace.specs.declared.event.Event.TheVariants as event
use Rattle.xs_trace.specs.declared.event.Event.TheVariants.{Start, Chars, End}
use Rattle.xs_trace.specs.declared.fault.Fault.TheVariants as fault
use Rattle.xs_trace.specs.declared.item.Site.{Site}
use Rattle.xs_trace.proofs.GrowthLemmas.{Grows, same, grows-then, stops-grow, goes-grows, by-grows, ticked-grows, put-grows, put_at-grows, said_at-grows, play-grows}
use Rattle.xs_trace.proofs.RunLemmas.{limited-grows}
use Rattle.xs_tree.specs.Kinds.{has_content, is_attribute_kind, is_text_kind}
use Rattle.xs_tree.specs.Record.{Record, at, children}
use Rattle.xs_value.specs.declared.value.Value.{Value}
use Rattle.xs_value.specs.Conversion.{fragment_text}
use Rattle.xs_making.specs.Copies.{shallow_copy}
use Rattle.xs_making.specs.Texts.{comment_text, instruction_text}
use Rattle.xs_attribute_sets.specs.Indexed.{declarations_in}
use Rattle.xs_body_spec.specs.declared.focus.Focus.{Focus}
use Rattle.xs_body_spec.specs.declared.made.Made.{Made}
use Rattle.xs_body_spec.specs.declared.made.Made.TheVariants as made
use Rattle.xs_body.specs.declared.frames.Scope.{Scope}
use Rattle.xs_sheet.specs.declared.body.NumberDecl.{NumberDecl}
use Rattle.xs_body_spec.specs.Numbers.{number_run}
use Rattle.xs_body_spec.specs.World.{World, by_rule, in_list, value_run, looped_nodes, text_run, test_run, applied_nodes}
use Rattle.xs_body_spec.specs.Tasks.{Params, no_params, Job, body_job, rules_job, Task, tasks_for, grain_over}
use Rattle.xs_body_spec.specs.Rules.{rule_for, import_for}
use Rattle.xs_body_spec.specs.Trace.{Entry, named, fitting, overridden, using, Called, by_number, by_rules, each, body_trace, declared_trace}
use Rattle.xs_body_spec.specs.Trace.{instrs_trace, literal_attributes, params_trace, puts_all, sets_trace}
use Rattle.xs_body.specs.steps.Frames.{Work, rest, fill, each_left, apply_left, bodies_left, end_element, sets_left, declared_left, attributes_left}
use Rattle.xs_body.specs.steps.Frames.{make, say, pass, take_value, params_left, Evaluation, last}
use Rattle.xs_body.specs.steps.Frames.{inner, over, bindings_of, instrs_of, bodies_of, chosen, all_bodies, without, filled, ended}
use Rattle.xs_body.specs.steps.Frames.{content_in, copied_begun, copy_of_steps, element_put, in_template, inside_begun, literal_inside}
use Rattle.xs_body.specs.steps.Frames.{lone_by, lone_steps, made_begun, made_of, selected_text}
use Rattle.xs_body.specs.steps.Making.{attributes_steps, copy_steps, fixed_text, literal_steps, made_at, made_steps, name_steps, selected, target_steps}
use Rattle.xs_body.specs.steps.Making.{text_ticked}
use Rattle.xs_making.specs.Putting.{events_steps}
use Rattle.xs_body.proofs.MakingLemmas.{attributes-grow, copies-grow, literal-grows, name-grows, named-grows, target-grows}
use Rattle.xs_making.proofs.PutLemmas.{events-grow}
use Rattle.xs_body_spec.specs.Trace.{calls_at}
use Rattle.xs_body.specs.steps.Frames.{message_steps, message_ended, fragment_at, passing_left, work_steps, stack_steps, pushed, filled_up, stays}
use Rattle.xs_body.specs.steps.Frames.{chars_steps, run_by, run_begun, applied_begun, built_in_begun, rule_begun, entry_begun}
use Rattle.xs_body.specs.steps.Frames.{entering, call_begun, imports_begun, content_begun, passes_on, param_begun}
use Rattle.xs_body.specs.steps.Frames.{fallbacks_begun, looping, loop_begun}
use Rattle.xs_body.specs.steps.Frames.{number_steps, value_steps, begun}
use Rattle.xs_body.specs.steps.Frames.{after, entering_fitting, outer, params_entered, rest_begun, rest_works, rule_entered, template_entered}

-- what is reported, and then a value that reports nothing
pub then-goes-grow : {H : Type 0} → {A B : Type 0} (g : State H → Step H A) (f : A → B) → Grows g → Grows (λ s. and_then (g s) (λ x m. Goes (f x) m))
then-goes-grow g f b s = grows-then s (g s) (λ x m. Goes (f x) m) (b s) (λ x. goes-grows (f x))

-- one of two
pub if-grows : {H : Type 0} → {A : Type 0} (b : Bool) (x y : State H → Step H A) → Grows x → Grows y → Grows (λ s. cond b (x s) (y s))
if-grows true x y p q s = p s
if-grows false x y p q s = q s

-- a capture that is opened, and one that is closed
pub opened-grows : {H : Type 0} → {A : Type 0} (x : A) → Grows {H = H} (λ s. Goes x (opened s))
opened-grows x s = record { before = same s (Goes x (opened s)) refl refl; shared = refl }

pub popped-grows : {H : Type 0} → {A : Type 0} (g : State H → State H → Step H A) → ((s : State H) → Grows (g s)) → Grows (λ s. g s (popped s))
popped-grows g b s = let e = b s (popped s) in record
    { before = record { rest = e.before.rest; reported = e.before.reported; left = e.before.left }; shared = e.shared }

pub chars-grow : {H : Type 0} → (p : Site) (t : List ℕ) → Grows {H = H} (chars_steps p t)
chars-grow p t = if-grows (length t == 0) goes (put_at p (Chars t)) (goes-grows tt) (put_at-grows p (Chars t))

pub ended-grows : (terminate : Bool) (p : Site) → Grows (ended terminate p)
ended-grows terminate p = if-grows terminate (stops (Fault fault.Terminated p)) goes (stops-grow (Fault fault.Terminated p)) (goes-grows tt)

pub message-grows : (p : Site) (terminate : Bool) (text : List ℕ) → Grows (message_steps p terminate text)
message-grows p terminate text s = grows-then s (said_at p text s) (λ u m. ended terminate p m) (said_at-grows p text s) (λ u. ended-grows terminate p)

pub message_ended-grows : (p : Site) (terminate : Bool) → Grows (message_ended p terminate)
message_ended-grows p terminate = popped-grows (λ s. message_steps p terminate (fragment_text (top s.captures)))
    (λ s. message-grows p terminate (fragment_text (top s.captures)))

pub stays-grow : (g : State Task → Reported Task) (t : Evaluation) → Grows g → Grows (λ s. stays (g s) t)
stays-grow g t b = then-goes-grow g (λ u. t) b

run_by-grows : (g : Option ℕ) (job : Job) (p : Site) (f : Focus) (ns : List ℕ) (x : Work) (t : Evaluation) → Grows (run_by g job p f ns x t)
run_by-grows None job p f ns x t = goes-grows (pushed (x ∷ []) t)
run_by-grows (Some grain) job p f ns x t = stays-grow (play (map Hole (tasks_for grain job p f ns))) t (play-grows (map Hole (tasks_for grain job p f ns)))

pub run-grows : (job : Job) (p : Site) (f : Focus) (ns : List ℕ) (x : Work) (t : Evaluation) → Grows (run_begun job p f ns x t)
run-grows job p f ns x t = run_by-grows (grain_over t.world f (length ns)) job p f ns x t

pub applied-grows : (mode : ℕ) (ps : Params) (p : Site) (f : Focus) (ns : List ℕ) (t : Evaluation) → Grows (applied_begun mode ps p f ns t)
applied-grows mode ps p f ns t = run-grows (rules_job mode ps) p (in_list (length ns) f) ns (apply_left mode ps p (in_list (length ns) f) 1 ns) t

built_in-grows : (mode : ℕ) (p : Site) (f : Focus) (r : Record) (t : Evaluation) → Grows (built_in_begun mode p f r t)
built_in-grows mode p f r t =
    if-grows (has_content r.kind) (applied_begun mode no_params p f (children t.world.tree f.node) t)
    (λ s. cond (is_text_kind r.kind || is_attribute_kind r.kind) (stays (chars_steps p r.text s) t) (Goes t s))
    (applied-grows mode no_params p f (children t.world.tree f.node) t)
    (if-grows (is_text_kind r.kind || is_attribute_kind r.kind) (λ s. stays (chars_steps p r.text s) t) (Goes t)
    (stays-grow (chars_steps p r.text) t (chars-grow p r.text)) (goes-grows t))

rule-grows : (o : Option ℕ) (mode : ℕ) (ps : Params) (p : Site) (f : Focus) (t : Evaluation) → Grows (rule_begun o mode ps p f t)
rule-grows None mode ps p f t = built_in-grows mode p f (at t.world.tree f.node) t
rule-grows (Some rule) mode ps p f t = goes-grows _

entry-grows : (e : Entry) (p : Site) (f : Focus) (t : Evaluation) → Grows (entry_begun e p f t)
entry-grows (named i ps) p f t = goes-grows _
entry-grows (fitting mode ps) p f t = rule-grows (rule_for t.world mode f.node) mode ps p f t
entry-grows (overridden current) p f t = rule-grows (import_for t.world current f) f.mode no_params p f t
entry-grows (using names) p f t = goes-grows _

pub entering-grows : (e : Entry) (p : Site) (f : Focus) (t : Evaluation) → Grows (entering e p f t)
entering-grows e p f t =
    if-grows (f.depth == 0) (stops (Fault fault.TooDeep p)) (entry_begun e p (in_template t.world f) t) (stops-grow (Fault fault.TooDeep p))
    (entry-grows e p (in_template t.world f) t)

pub call-grows : (callee : Called) (ps : Params) (p : Site) (f : Focus) (t : Evaluation) → Grows (call_begun callee ps p f t)
call-grows (by_number i) ps p f t s = grows-then s (ticked p s) (λ u m. entering (named i ps) p f t m) (ticked-grows p s)
    (λ u. entering-grows (named i ps) p f t)
call-grows (by_rules mode ns) ps p f t s = applied-grows mode ps p f ns t s

imports-grow : (p : Site) (f : Focus) (o : Option ℕ) (t : Evaluation) → Grows (imports_begun p f o t)
imports-grow p f None t s = stops-grow (Fault fault.NoRule p) s
imports-grow p f (Some rule) t s = grows-then s (ticked p s) (λ u m. entering (overridden rule) p f t m) (ticked-grows p s)
    (λ u. entering-grows (overridden rule) p f t)

pub content-grows : (content : Content) (p : Site) (c : Scope) (t : Evaluation) → Grows (content_begun content p c t)
content-grows Empty p c t = goes-grows _
content-grows (Select e) p c t = then-goes-grow (limited p (value_run t.world e c.focus (last c.seen t.slots))) (λ v. filled_up (v ∷ []) t) (limited-grows p _)
content-grows (Fragment body) p c t = opened-grows _

pub param-grows : (o : Option Value) (content : Content) (p : Site) (c : Scope) (t : Evaluation) → Grows (param_begun o content p c t)
param-grows None content p c t = content-grows content p c t
param-grows (Some v) content p c t = goes-grows _

pub passes-grow : (left all : List Binding) (us : List Value) (callee : Called) (p : Site) (c : Scope) (t : Evaluation) →
    Grows (passes_on left all us callee p c t)
passes-grow [] all us callee p c t = call-grows callee (record { bindings = all; values = us }) p c.focus t
passes-grow (b ∷ left) all us callee p c t = goes-grows _

fallbacks-grow : (bs : List Body) (p : Site) (c : Scope) (t : Evaluation) → Grows (fallbacks_begun bs p c t)
fallbacks-grow [] p c t = stops-grow (Fault fault.NoExtension p)
fallbacks-grow (b ∷ bs) p c t = goes-grows _

pub loop-grows : (body : Body) (p : Site) (c : Scope) (ns : List ℕ) (t : Evaluation) → Grows (loop_begun body p c ns t)
loop-grows body p c ns t = run-grows (body_job body (last c.seen t.slots)) p (looping c.focus ns) ns (each_left body p (over (looping c.focus ns) c) 1 ns) t

value-grows : (select : ScopedExpr) (p : Site) (c : Scope) (t : Evaluation) → Grows (value_steps select p c t)
value-grows select p c t s =
    grows-then s (limited p (text_run t.world select c.focus (last c.seen t.slots)) s) (λ text m. chars_steps p text m) (limited-grows p _ s) (chars-grow p)

number-grows : (decl : NumberDecl) (p : Site) (c : Scope) (t : Evaluation) → Grows (number_steps decl p c t)
number-grows decl p c t s =
    grows-then s (limited p (number_run t.world decl c.focus (last c.seen t.slots)) s) (λ text m. chars_steps p text m) (limited-grows p _ s) (chars-grow p)

-- what is put, and then what it begins
pub element-grows : (name : Label) (sets : List Label) (body : Body) (c : Scope) (t : Evaluation) → Grows (element_put name sets body c t)
element-grows name sets body c t = then-goes-grow (put (Start name)) (λ u. inside_begun sets body c t) (put-grows (Start name))

pub text_ticked-grows : {H : Type 0} → (p : Site) (text : List ℕ) → Grows {H = H} (text_ticked p text)
text_ticked-grows p text = then-goes-grow (ticked_by (length text / 256) p) (λ u. Some text) (by-grows (length text / 256) p)

pub selected_text-grows : (select : ScopedExpr) (p : Site) (c : Scope) (t : Evaluation) → Grows (selected_text select p c t)
selected_text-grows select p c t s =
    grows-then s (limited p (text_run t.world select c.focus (last c.seen t.slots)) s) (λ text m. text_ticked p text m) (limited-grows p _ s)
    (text_ticked-grows p)

lone_by-grows : (text : Option (List ℕ)) (select : Option ScopedExpr) (p : Site) (c : Scope) (t : Evaluation) → Grows (lone_by text select p c t)
lone_by-grows (Some text) select p c t = λ s. grows-then s (ticked p s) (λ u m. text_ticked p text m) (ticked-grows p s) (λ u. text_ticked-grows p text)
lone_by-grows None (Some select) p c t = λ s.
    grows-then s (ticked p s) (λ u m. selected_text select p c t m) (ticked-grows p s) (λ u. selected_text-grows select p c t)
lone_by-grows None None p c t = goes-grows None

pub lone-grows : (is : List Instr) (c : Scope) (t : Evaluation) → Grows (lone_steps is c t)
lone-grows [] c t = goes-grows None
lone-grows (i ∷ []) c t = lone_by-grows (fixed_text i.kind) (selected i.kind) i.site c t
lone-grows (i ∷ j ∷ is) c t = goes-grows None

made_steps-grow : (m : Made) (text : List ℕ) (p : Site) → Grows {H = Task} (made_steps m text p)
made_steps-grow (made.Attribute name) text p = named-grows p name text
made_steps-grow made.Comment text p = put_at-grows p (event.Comment (comment_text text))
made_steps-grow (made.Instruction target) text p = put_at-grows p (event.Pi target (instruction_text text))

pub made_of-grows : (text : Option (List ℕ)) (m : Made) (body : Body) (p : Site) (c : Scope) (t : Evaluation) → Grows (made_of text m body p c t)
made_of-grows None m body p c t = opened-grows _
made_of-grows (Some text) m body p c t = stays-grow (made_steps m text p) t (made_steps-grow m text p)

pub made-grows : (m : Made) (body : Body) (p : Site) (c : Scope) (t : Evaluation) → Grows (made_begun m body p c t)
made-grows m body p c t s =
    grows-then s (lone_steps (instrs_of body) c t s) (λ text n. made_of text m body p c t n) (lone-grows (instrs_of body) c t s)
    (λ text. made_of-grows text m body p c t)

-- what is in a literal element
pub literal_inside-grows : (start : LiteralStart) (body : Body) (p : Site) (c : Scope) (t : Evaluation) → Grows (literal_inside start body p c t)
literal_inside-grows start body p c t =
    if-grows (length start.sets == 0) (λ s. stays (attributes_steps t.world p c.focus (last c.seen t.slots) start.attributes s) (content_in body c t)) (Goes _)
    (stays-grow (attributes_steps t.world p c.focus (last c.seen t.slots) start.attributes) (content_in body c t)
    (attributes-grow t.world p c.focus (last c.seen t.slots) start.attributes))
    (goes-grows _)

copy-grows : (select : ScopedExpr) (p : Site) (c : Scope) (t : Evaluation) → Grows (copy_of_steps select p c t)
copy-grows select p c t s =
    grows-then s (limited p (value_run t.world select c.focus (last c.seen t.slots)) s) (λ v m. copy_steps t.world.tree p v m) (limited-grows p _ s)
    (copies-grow t.world.tree p)

pub begun-grows : (kind : InstrKind) (p : Site) (c : Scope) (t : Evaluation) → Grows (begun kind p c t)
begun-grows (ApplyTemplates nodes passed) p c t = λ s.
    grows-then s (limited p (applied_nodes t.world nodes.select nodes.sorts c.focus (last c.seen t.slots)) s)
    (λ ns m. passes_on (bindings_of passed) (bindings_of passed) [] (by_rules nodes.mode ns) p c t m) (limited-grows p _ s)
    (λ ns. passes-grow (bindings_of passed) (bindings_of passed) [] (by_rules nodes.mode ns) p c t)
begun-grows (CallTemplate i passed) p c t = passes-grow (bindings_of passed) (bindings_of passed) [] (by_number i) p c t
begun-grows ApplyImports p c t = imports-grow p c.focus c.focus.rule t
begun-grows (ForEach select sorts body) p c t = λ s.
    grows-then s (limited p (looped_nodes t.world select sorts c.focus (last c.seen t.slots)) s) (λ ns m. loop_begun body p c ns t m) (limited-grows p _ s)
    (λ ns. loop-grows body p c ns t)
begun-grows (ValueOf select) p c t = stays-grow (value_steps select p c t) t (value-grows select p c t)
begun-grows (CopyOf select) p c t = stays-grow (copy_of_steps select p c t) t (copy-grows select p c t)
begun-grows (Copy sets body) p c t =
    then-goes-grow (events_steps p (shallow_copy t.world.tree c.focus.node)) (λ u. copied_begun (at t.world.tree c.focus.node).kind sets body c t)
    (events-grow p (shallow_copy t.world.tree c.focus.node))
begun-grows (Number decl) p c t = stays-grow (number_steps decl p c t) t (number-grows decl p c t)
begun-grows (Choose choice) p c t = then-goes-grow (limited p (chosen choice t.world c.focus (last c.seen t.slots)))
    (λ body. pushed (rest (instrs_of body) (inner c) ∷ []) t) (limited-grows p _)
begun-grows (If test body) p c t =
    then-goes-grow (limited p (test_run t.world test c.focus (last c.seen t.slots))) (λ b. pushed (cond b (rest (instrs_of body) (inner c) ∷ []) []) t)
    (limited-grows p _)
begun-grows (Text text) p c t = stays-grow (chars_steps p text) t (chars-grow p text)
begun-grows (Element name sets body) p c t = λ s.
    grows-then s (name_steps t.world p c.focus (last c.seen t.slots) false name s) (λ label m. element_put label sets body c t m)
    (name-grows t.world p c.focus (last c.seen t.slots) false name s) (λ label. element-grows label sets body c t)
begun-grows (Attribute name body) p c t = λ s.
    grows-then s (name_steps t.world p c.focus (last c.seen t.slots) true name s) (λ label m. made_begun (made.Attribute label) body p c t m)
    (name-grows t.world p c.focus (last c.seen t.slots) true name s) (λ label. made-grows (made.Attribute label) body p c t)
begun-grows (Comment body) p c t = made-grows made.Comment body p c t
begun-grows (Pi name body) p c t = λ s.
    grows-then s (target_steps t.world p c.focus (last c.seen t.slots) name s) (λ target m. made_begun (made.Instruction target) body p c t m)
    (target-grows t.world p c.focus (last c.seen t.slots) name s) (λ target. made-grows (made.Instruction target) body p c t)
begun-grows (Message terminate body) p c t = opened-grows _
begun-grows (Variable' site name content) p c t = content-grows content p c t
begun-grows (Literal start body) p c t = λ s.
    grows-then s (literal_steps t.world.sheet.aliases p start s) (λ u m. literal_inside start body p c t m) (literal-grows t.world.sheet.aliases p start s)
    (λ u. literal_inside-grows start body p c t)
begun-grows (Extension fallbacks) p c t = fallbacks-grow (bodies_of fallbacks) p c t

pub rest-grows : (is : List Instr) (c : Scope) (t : Evaluation) → Grows (rest_begun is c t)
rest-grows [] c t = goes-grows _
rest-grows (i ∷ is) c t = λ s.
    let u : Evaluation = pushed (rest_works is (after i.kind c)) t in
    grows-then s (ticked i.site s) (λ q m. begun i.kind i.site c u m) (ticked-grows i.site s) (λ q. begun-grows i.kind i.site c u)

params-grow : (bs : List Binding) (ps : Params) (body : Body) (c : Scope) (t : Evaluation) → Grows (params_entered bs ps body c t)
params-grow [] ps body c t = rest-grows (instrs_of body) c t
params-grow (b ∷ bs) ps body c t = goes-grows _

template-grows : (o : Option Template) (ps : Params) (f : Focus) (t : Evaluation) → Grows (template_entered o ps f t)
template-grows None ps f t = goes-grows t
template-grows (Some template) ps f t = params-grow template.params ps template.body (outer f) t

rule_entered-grows : (o : Option ℕ) (mode : ℕ) (ps : Params) (p : Site) (f : Focus) (t : Evaluation) → Grows (rule_entered o mode ps p f t)
rule_entered-grows None mode ps p f t = built_in-grows mode p f (at t.world.tree f.node) t
rule_entered-grows (Some rule) mode ps p f t = template-grows (slice_get t.world.sheet.templates rule) ps (by_rule rule mode f) t

pub fitting-grows : (mode : ℕ) (ps : Params) (p : Site) (f : Focus) (t : Evaluation) → Grows (entering_fitting mode ps p f t)
fitting-grows mode ps p f t =
    let g : Focus = in_template t.world f in
    let o : Option ℕ = rule_for t.world mode f.node in
    if-grows (f.depth == 0) (stops (Fault fault.TooDeep p)) (rule_entered o mode ps p g t) (stops-grow (Fault fault.TooDeep p))
    (rule_entered-grows o mode ps p g t)

filled-grows : (x : Trace Task) (vs : List Value) → Grows (filled x vs)
filled-grows x vs = then-goes-grow (play x) (λ u. vs) (play-grows x)

work-grows : (w : World) (x : Work) (vs : List Value) → Grows (work_steps w x vs)
work-grows w (rest is c) vs = filled-grows (instrs_trace is w (calls_at w c.focus) c.focus (last c.seen vs)) (without c.own vs)
work-grows w fill vs = λ s. record { before = same s (work_steps w fill vs s) refl refl; shared = refl }
work-grows w (each_left body p c i ns) vs = filled-grows (each p (λ g. body_trace body w (calls_at w c.focus) g (last c.seen vs)) c.focus i ns) vs
work-grows w (apply_left mode ps p f i ns) vs = filled-grows (each p (calls_at w f (fitting mode ps) p) f i ns) vs
work-grows w (bodies_left bodies c) vs = filled-grows (all_bodies bodies w (calls_at w c.focus) c.focus (last c.seen vs)) vs
work-grows w end_element vs = then-goes-grow (put End) (λ u. vs) (put-grows End)
work-grows w (sets_left names f) vs = filled-grows (sets_trace names w (calls_at w f) f) vs
work-grows w (declared_left name i f) vs = filled-grows (declared_trace (drop i (declarations_in w.index name)) w (calls_at w f) f) vs
work-grows w (attributes_left xs p c) vs = filled-grows (literal_attributes xs p w c.focus (last c.seen vs)) vs
work-grows w (make m p) vs = popped-grows (λ s. filled (puts_all p (made_at m s)) vs) (λ s. filled-grows (puts_all p (made_at m s)) vs)
work-grows w (say p terminate) vs = then-goes-grow (message_ended p terminate) (λ u. vs) (message_ended-grows p terminate)
work-grows w (pass left all us callee p c) vs = filled-grows (passing_left left all callee w p c.focus (last c.seen vs) us) vs
work-grows w (take_value left all us callee p c) vs =
    popped-grows (λ s. filled (passing_left left all callee w p c.focus (last c.seen vs) (us ++ fragment_at s ∷ [])) vs)
    (λ s. filled-grows (passing_left left all callee w p c.focus (last c.seen vs) (us ++ fragment_at s ∷ [])) vs)
work-grows w (params_left bs ps body c) vs =
    filled-grows (params_trace bs ps w (calls_at w c.focus) c.focus (last c.seen vs) (body_trace body w (calls_at w c.focus) c.focus)) (without c.own vs)

pub stack-grows : (w : World) (xs : List Work) (vs : List Value) → Grows (stack_steps w xs vs)
stack-grows w [] vs = goes-grows tt
stack-grows w (x ∷ xs) vs = λ s. grows-then s (work_steps w x vs s) (λ us m. stack_steps w xs us m) (work-grows w x vs s) (stack-grows w xs)
